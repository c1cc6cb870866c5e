-- The path that a text names from a directory.
pub use Rattle.retro_path.specs.Resolving.{walk, is_long, start_of, resolve_parts, resolve}
unfoldable pub use Rattle.retro_path.specs.Resolving.{parts_of, step, is_relative}
pub use Rattle.retro_path.specs.declared.resolving.Resolved.{Resolved}
pub use Rattle.retro_path.specs.declared.resolving.Resolved.TheVariants.{Is, Empty, LongName}
