pub mod MoveLaws
pub mod RewrittenLaws
pub mod DepthLaws
pub mod ScopeLaws
pub mod EnterLaws
