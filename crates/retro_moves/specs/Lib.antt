pub mod Trees
pub mod RemovalNotes
pub mod MoveNotes
pub mod inner
