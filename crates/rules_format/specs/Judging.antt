-- The judged bits of an ID as one number, its first byte lowest: what a survey compares before it asks which fault.
use Rattle.std.specs.Prelude.{List, ℕ, ◌+◌, ◌*◌, ◌/◌, ◌%◌, get_or}
use Rattle.base.specs.Run.{tab}
use Rattle.paper.specs.declared.Entry.{Entry}
use Rattle.rules_format.specs.Places.{code_of, section_of, place, block, entry_at}
use Rattle.rules_format.specs.Ids.{fsc_of, fsp_of}

-- section, then Dseq, FSC and FSP, then DBN
unfoldable pub judged_bits : List ℕ → ℕ
judged_bits block = 32 * (get_or block 0 0 / 32) + 1024 * (get_or block 1 0 / 4) + 65536 * get_or block 2 0

-- those that an entry of the table of places gives: the number that stands for it in print
abbrev pub printed : Entry → ℕ
printed e = 32 * code_of e.section + 65536 * e.number.0

-- the table of places in print
unfoldable pub printed_places : List ℕ
printed_places = tab (λ (p : ℕ). printed (entry_at (place p))) 150

-- the entry that a number in print stands for
unfoldable pub entry_of : ℕ → Entry
entry_of k = block (section_of (k % 65536 / 32)) (k / 65536)

-- those that DIF channel h and sequence q give
abbrev pub key_of : ℕ → ℕ → ℕ
key_of h q = 1024 * (4 * q + 2 * fsc_of h + fsp_of h)
