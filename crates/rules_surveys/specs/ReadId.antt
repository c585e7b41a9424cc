-- The call `read_id`, by its enum and by its values: "an ID read 4 and 11".
use Rattle.std.specs.Prelude.{◌≡◌, not, List, [], ◌∷◌, ℕ, eqb, leb, length}
use Rattle.base.specs.Calls.{first_of, ◌when◌}
use Rattle.base.specs.Pick.{pick}
use Rattle.paper.specs.declared.IdAnswer.{IdAnswer}
use Rattle.paper.specs.declared.IdValues.{IdValues}
use Rattle.rules_format.specs.Ids.{section_bits, dseq_bits, fsc_bit, fsp_bit, dbn_byte, arbitrary_bits, reserved_bits, channel_of, id_answer, id_refusal, id_values}

-- the refusals in their order: "an ID 3 bytes"; "5-7 reserved"
unfoldable pub id_number : List ℕ → ℕ
id_number id = first_of (
    4 when not (eqb (length id) 3)
    ∷ 11 when leb 5 (section_bits id)
    ∷ [])

-- the paper's number and values: "A refusal answers its number, otherwise zeros"
unfoldable pub id_says : List ℕ → IdValues
id_says id =
    pick (eqb (id_number id) 0)
    (record {
      number = 0;
      section = section_bits id;
      channel = channel_of (fsc_bit id) (fsp_bit id);
      dseq = dseq_bits id;
      dbn = dbn_byte id;
      arbitrary = arbitrary_bits id;
      reserved = reserved_bits id;
    })
    (id_refusal (id_number id))

-- the answer as an enum
pub record IdRead (id : List ℕ) (r : IdAnswer) : Type 0 where
  pub answer : r ≡ id_answer id
  pub says : id_values r ≡ id_says id

-- and by its values
pub record IdSaid (id : List ℕ) (r : IdValues) : Type 0 where
  pub answer : r ≡ id_says id
