-- What every sequence of a frame repeats, of the time code and binary group that the writer was given.
use Rattle.std.specs.Prelude.{List, ℕ}
use Rattle.paper.specs.declared.System.{System}
use Rattle.paper.specs.declared.Repeated.{Repeated}
use Rattle.paper.specs.declared.SubcodeData.{SubcodeData}
use Rattle.rules_packs.specs.TimeCode.{time_pack, group_pack}
use Rattle.rules_packs.specs.Vaux.{vs_pack, vsc_pack}
use Rattle.rules_packs.specs.Aaux.{asc_pack}

abbrev pub subcode_of : List ℕ → List ℕ → SubcodeData
subcode_of time group = record { time = time_pack time; group = group_pack group }

abbrev pub repeated_of : System → List ℕ → List ℕ → Repeated
repeated_of y time group = record { subcode = subcode_of time group; vs = vs_pack y; vsc = vsc_pack; asc = asc_pack }
