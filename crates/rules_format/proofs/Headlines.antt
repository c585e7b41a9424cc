-- What an edit of this crate's definitions is refused by: the known places of document 01, and the definitions in its own numbers. Assumes nothing.
use lib.Dec.{T}
use Rattle.rules_format.specs.InNumbers.{InNumbers}
use Rattle.rules_format.specs.Known.{all, table}
use Rattle.rules_format.proofs.Numbers.{in_numbers}
use Rattle.rules_format.proofs.Known.{table_agrees}

pub known_places : T (all table)
known_places = table_agrees

pub format_in_numbers : InNumbers
format_in_numbers = in_numbers
