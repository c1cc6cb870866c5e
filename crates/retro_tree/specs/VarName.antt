-- The names of variables that a line can assign.
pub use Rattle.retro_path.specs.VarName.{starts_name, continues_name, barred_names}
unfoldable pub use Rattle.retro_path.specs.VarName.{is_shell_name, is_var_name}
