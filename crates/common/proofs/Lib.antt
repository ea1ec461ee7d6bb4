pub mod Choice
pub mod Digits
pub mod Lists
pub mod Remainders
