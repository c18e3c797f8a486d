pub mod Written
pub mod Failing
pub mod RecipientLaws
pub mod ListLaws
pub mod BitsAgain
pub mod Again
pub mod RecKept
