pub mod ReplyBytes
pub mod Taking
pub mod Laws
