pub mod ReplyCases
pub mod ReplyFacts
