-- The names of files: which texts can be one, and their maximum length.
pub use Rattle.retro_path.specs.Name.{name_limit, AllNames}
unfoldable pub use Rattle.retro_path.specs.Name.{is_name}
