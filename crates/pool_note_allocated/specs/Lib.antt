pub mod NoteAllocated
