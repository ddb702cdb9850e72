-- What is written of a text that is no path.
use Rattle.std.specs.Prelude.{ℕ, List, ◌++◌, codes, decimal}
use Rattle.contract.specs.declared.path_text.NoPath.{NoPath}

abbrev pub told : NoPath → List ℕ
told x = codes "no path at " ++ decimal x.place
