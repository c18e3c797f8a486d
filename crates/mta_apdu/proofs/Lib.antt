pub mod ApduLaws
pub mod ApduAgain
