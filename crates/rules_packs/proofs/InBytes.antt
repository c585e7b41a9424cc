-- The workshop of this crate's headline: its definitions in document 01's own bytes. Assumes nothing.
use Rattle.std.specs.Prelude.{Some}
use mathlib.Core.Path.{◌≡◌, refl, sym, ap, ◌∙◌}
use Prim.Native.Nat.{ℕ, ◌/◌, ◌%◌}
use lib.Dec.{eqb}
use lib.ListN.{get_or}
use Rattle.paper.specs.declared.System.{System}
use Rattle.rules_format.specs.Systems.{system_of}
use Rattle.rules_packs.specs.Subcode.{is_first, kind_of, subcode_bytes, ssybs}
use Rattle.rules_packs.specs.Vaux.{vaux_bytes, vaux_packs}
use Rattle.rules_format.proofs.Paper.{columns, time_below, group_below}
use Rattle.rules_packs.specs.InBytes.{InBytes}
use Rattle.rules_packs.proofs.Written.{header_form_lem, half_first, is_time_lem, is_group_lem, holds_time_lem, holds_group_lem, ssyb_form_lem}
use Rattle.rules_packs.proofs.Written.{vaux_form_lem, aaux_form_lem}
use Rattle.rules_packs.proofs.Judged.{vs_same, vs_wrong, vs_right, as_same, as_wrong, as_right, count_by_lem, time_wrong, time_right, taken_wrong}
use Rattle.rules_packs.proofs.Judged.{taken_right}
use Rattle.rules_packs.proofs.Packs.{pair_source, pair_control, time_means, time_when}
use Rattle.rules_packs.proofs.Vaux.{vs_means, vs_when}
use Rattle.rules_packs.proofs.Aaux.{as_means, as_when}

-- ---- all

pub in_bytes : (k : ℕ) (y : System) → system_of k ≡ Some y → InBytes k y
unfolding subcode_bytes ssybs vaux_bytes vaux_packs
in_bytes k y known = record {
  header = sym (header_form_lem k y known);
  dsf = λ block. ap (eqb (get_or block 3 0 / 128)) (sym (columns k y known).rate_is);
  flags = λ i block. refl;
  first = λ q. sym (half_first k y known q);
  holds_time_lem = λ q j held. let l = time_below _ q j held in is_time_lem (kind_of (is_first y q) j) (sym (holds_time_lem k y known q j l) ∙ held);
  holds_group_lem = λ q j held. let l = group_below _ q j held in is_group_lem (kind_of (is_first y q) j) (sym (holds_group_lem k y known q j l) ∙ held);
  ssybs = λ time group four four' q j hj. sym (ssyb_form_lem k y known time group four four' q j hj);
  subcode = λ said q b. refl;
  ssyb_read = λ block j. refl;
  time_wrong = time_wrong k y known;
  time_right = time_right k y known;
  group = λ p. refl;
  taken_wrong = taken_wrong k y known;
  taken_right = taken_right k y known;
  vaux = λ time group q j. sym (vaux_form_lem k y known q j);
  vaux_pair = λ vs vsc q. rw (sym (vs_same q)) (pair_source _ vs _, pair_control _ _ vsc);
  vaux_blocks = λ vs vsc q b. refl;
  vs_at_lem = vs_same;
  vaux_read = λ block j. refl;
  vaux_block_lem = λ j. refl;
  vs_wrong = vs_wrong k y known;
  vs_right = vs_right k y known;
  aaux = λ time group count h q a hq. sym (aaux_form_lem k y known count h q hq a);
  aaux_pair = λ source asc q. rw (sym (as_same q)) (pair_source _ source _, pair_control _ _ asc);
  as_at_lem = as_same;
  aaux_read = λ block. refl;
  as_wrong = as_wrong k y known;
  as_right = as_right k y known;
  count = λ p. count_by_lem (p.pc1 % 64);
  mode = λ p. refl;
  mark = λ p. refl;
  packs = λ p. (refl, refl);
  pack_in_lem = λ block at. refl;
  clock_clauses = λ p. (time_means y p, time_when y p);
  vs_clauses = λ p. (vs_means y p, vs_when y p);
  as_clauses = λ c p. (as_means y c p, as_when y c p);
}
