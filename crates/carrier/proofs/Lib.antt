pub mod Taken
pub mod Walking
pub mod Answers
pub mod Greatest
pub mod Judged
pub mod Blank
pub mod Told
