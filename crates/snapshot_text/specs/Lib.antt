pub mod ValueData
pub mod Snapshots
pub mod BaseText
pub mod Tokens
pub mod WorkedTexts
pub mod Configurations
pub mod Histories
pub mod Validity
