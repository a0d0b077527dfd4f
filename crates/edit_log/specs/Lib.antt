pub mod Log
