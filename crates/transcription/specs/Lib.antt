-- The words of records and the records of words ("The stored table").
pub mod Reading
pub mod Writing
