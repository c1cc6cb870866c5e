-- HOME is the name of a variable that a line can assign.
use Rattle.std.specs.Prelude.{IsTrue, codes, refl}
use Rattle.retro_path.specs.VarName.{is_var_name, is_shell_name}

pub home_is_name : IsTrue (is_var_name (codes "HOME"))
unfolding is_var_name is_shell_name
home_is_name = refl
