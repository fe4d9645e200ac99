-- What the verdict program is asked, and where its parts stand in the bytes.
pub mod Request
pub mod Parse
