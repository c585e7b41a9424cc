-- The ways out of `values`, and what `dv100_read_id` says. Assumes nothing.
use mathlib.Core.Path.{◌≡◌, refl, ◌∙◌}
use mathlib.Core.List.{List}
use Prim.Native.Nat.{ℕ}
use Rattle.paper.specs.declared.BlockId.{BlockId}
use Rattle.paper.specs.declared.Spare.{Spare}
use Rattle.paper.specs.declared.IdAnswer.{IdAnswer}
use Rattle.paper.specs.declared.IdAnswer.TheVariants.{Named, Reserved, WrongLength}
use Rattle.paper.specs.declared.IdValues.{IdValues}
use Rattle.rules_format.specs.Places.{code_of}
use Rattle.rules_format.specs.Ids.{id_refusal, id_values}
use Rattle.rules_surveys.specs.ReadId.{IdRead, IdSaid}

-- ---- values

module _ (a : IdAnswer) where
  pub values_named : (b : BlockId) (s : Spare) → a ≡ Named b s → (code : ℕ) → code ≡ code_of b.section
      → record {
        number = 0;
        section = code;
        channel = b.channel;
        dseq = b.dseq;
        dbn = b.dbn.0;
        arbitrary = s.arbitrary;
        reserved = s.reserved;
      }
      ≡ id_values a
  values_named b s e code ec = rw (e, ec) refl

  pub values_reserved : a ≡ Reserved → (r : IdValues) → r ≡ id_refusal 11 → r ≡ id_values a
  values_reserved e r er = er ∙ rw e refl

  pub values_wrong : a ≡ WrongLength → (r : IdValues) → r ≡ id_refusal 4 → r ≡ id_values a
  values_wrong e r er = er ∙ rw e refl

-- ---- dv100_read_id

pub values_said : (id : List ℕ) (a : IdAnswer) → IdRead id a → (r : IdValues) → r ≡ id_values a → IdSaid id r
values_said id a m r e = record { answer = e ∙ m.says }
