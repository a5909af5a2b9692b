pub mod Contacts
pub mod Lists
pub mod Examples
