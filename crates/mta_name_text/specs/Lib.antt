pub mod Forms
pub mod Routes
pub mod Shapes
pub mod Keys
pub mod Grammar
pub mod Reading
pub mod Made
pub mod Laws
