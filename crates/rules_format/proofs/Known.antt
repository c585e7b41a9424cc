-- The known places of document 01 agree with the rules: one table, one statement. Assumes nothing.
use lib.Dec.{T}
use Rattle.base.specs.Calls.{first_of}
use Rattle.base.specs.Pick.{pick}
use Rattle.base.specs.Run.{run, tab}
use Rattle.rules_format.specs.Systems.{half_of}
use Rattle.rules_format.specs.Places.{section_of, places, entry_at}
use Rattle.rules_format.specs.Ids.{channel_of, named_by, id_answer, id_bytes, id_at}
use Rattle.rules_format.specs.Faults.{misnamed, fault_of, fault_at}
use Rattle.rules_format.specs.Known.{same, agrees, all, table}

pub table_agrees : T (all table)
unfolding table all agrees same half_of places entry_at run tab id_at id_bytes id_answer named_by section_of channel_of fault_at fault_of misnamed first_of pick
table_agrees = tt
