-- What a call returns if memory can run out before it is done.
pub use Rattle.retro_path.specs.OutOfMemory.{IsMeant, UnlessOutOfMemory}
