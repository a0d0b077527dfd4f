mod PushBack
mod LinesRead
mod OneReply
mod OneExchange
mod Refusals
mod KeptEdits
pub mod MetEdits
pub mod AllOrNothing
