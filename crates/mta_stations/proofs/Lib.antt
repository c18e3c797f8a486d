pub mod Finds
pub mod DecidingLaws
pub mod PeerLaws
pub mod RoleLaws
