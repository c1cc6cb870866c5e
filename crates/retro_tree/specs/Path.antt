-- Paths as lists of names: their parents, prefixes and children, /dev/null and /etc/passwd.
pub use Rattle.retro_path.specs.Path.{PathValue, usize_bound, is_root, parent_of, last_of, prefixes_of, below}
pub use Rattle.retro_path.specs.Path.{only_name, child_name, is_child, null_path, nothing_left}
unfoldable pub use Rattle.retro_path.specs.Path.{may_exist, is_null, passwd}
pub use Rattle.retro_path.specs.Slashed.{slashed}
pub use Rattle.retro_path.specs.AfterChild.{next_text, after_names, after_child}
