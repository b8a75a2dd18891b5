pub mod Alike
pub mod Faces
pub mod Figures
pub mod Shrunken
pub mod Told
