-- The elimination of a sheet.
pub mod Delivery
pub mod Carrying
pub mod CountLaws
pub mod OneReply
