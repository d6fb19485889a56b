pub mod Tables
pub mod Games
pub mod Export
