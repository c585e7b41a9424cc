-- Each way out of the block writers, by what their callees left. Assumes nothing.
use Rattle.std.specs.Prelude.{Option, Some, None}
use mathlib.Core.Path.{◌≡◌, refl, sym, ap, ◌∙◌}
use mathlib.Core.Bool.{Bool}
use mathlib.Core.List.{List, [], ◌∷◌, ◌++◌, append-nil}
use Prim.Native.Nat.{ℕ, ◌+◌, ◌-◌, ◌*◌, ◌≤◌}
use native.Mathlib.Omega.{arith}
use lib.IntN.{ℤ}
use lib.ListN.{length, take, drop, set, replicate, length-append}
use lib.Seq.{length-take-le, drop_at, drop-drop}
use borrow.Rule.Slice.PartMut.{put_mid, post_of}
use Rattle.base.specs.Pick.{pick}
use Rattle.base.specs.Run.{run}
use Rattle.base.proofs.Runs.{tab_part}
use Rattle.base.proofs.Filling.{Filled, filled_next, filled_end}
use Rattle.base.proofs.Parts.{length_part, range_part, none_left, all_set}
use Rattle.paper.specs.declared.System.{System}
use Rattle.paper.specs.declared.BlockId.{BlockId}
use Rattle.paper.specs.declared.Pack.{Pack}
use Rattle.paper.specs.declared.SubcodeData.{SubcodeData}
use Rattle.paper.specs.declared.SubcodePack.{SubcodePack}
use Rattle.rules_format.specs.Ids.{id_bytes}
use Rattle.rules_packs.specs.Packs.{pack_bytes}
use Rattle.rules_packs.specs.Header.{rate_byte, header_bytes}
use Rattle.rules_packs.specs.Subcode.{kind_of, subcode_pack, fr_byte, ssyb, ssybs, subcode_bytes}
use Rattle.rules_packs.specs.Vaux.{vaux_pack, vaux_packs, vaux_bytes}
use Rattle.rules_packs.specs.Aaux.{aaux_pack}
use Rattle.rules_picture.specs.Picture.{slot, carried_in}
use Rattle.rules_writes.specs.Written.{word_bytes, audio_bytes, carried_bytes, video_bytes}
use Rattle.rules_picture.proofs.Picture.{carried_lies}
use Rattle.rules_packs.proofs.Subcode.{ssyb_length}
use Rattle.sample_words.specs.Words.{words_put, words_fit}
use Rattle.sample_words.proofs.Words.{put_fits, put_all}
use Rattle.blocks.specs.Asked.{AudioAsked, VideoAsked}

-- ---- the first bytes of a list, stored one after the other

pub five_set : (xs : List ℕ) (a b c d e : ℕ) → length xs ≡ 5 → set (set (set (set (set xs 0 a) 1 b) 2 c) 3 d) 4 e ≡ a ∷ b ∷ c ∷ d ∷ e ∷ []
five_set xs a b c d e = all_set xs (a ∷ b ∷ c ∷ d ∷ e ∷ [])

-- ---- the header

pub header_done : (xs ys zs ws : List ℕ) (id : BlockId) (y : System) (r : ℕ) → length xs ≡ 80 → ys ≡ replicate (length xs) 255 → zs ≡ id_bytes id → r ≡ rate_byte y
    → ws ≡ r ∷ 255 ∷ 127 ∷ 127 ∷ 127 ∷ [] → put_mid 3 5 (zs ++ post_of 0 3 ys) ws ≡ id_bytes id ++ header_bytes y
unfolding id_bytes header_bytes
header_done xs ys zs ws id y r n ey ez er ew = rw (ez, ey, n, ew, er) refl

-- ---- the subcode

pub ssyb_done : (xs hs ps : List ℕ) (first : Bool) (said : SubcodeData) (p : Pack) (k i : ℕ) (kind : SubcodePack) → length xs ≡ 8 → i ≡ fr_byte first → hs ≡ i ∷ (240 + k) ∷ 255 ∷ []
    → kind ≡ kind_of first k → p ≡ subcode_pack kind said.time said.group → ps ≡ pack_bytes p → put_mid 3 5 (hs ++ post_of 0 3 xs) ps ≡ ssyb first said k
unfolding ssyb
ssyb_done xs hs ps first said p k i kind n ei eh ek ep eps =
    let e : drop 5 (drop 3 xs) ≡ [] = drop-drop 5 3 xs ∙ none_left 8 xs n in
    rw (eh, eps, ei, e, ep, ek) refl

-- the six of a block, in a loop
module _ (first : Bool) (said : SubcodeData) (k : ℕ) where
  abbrev pub ssyb_at : ℕ → List ℕ
  ssyb_at j = ssyb first said (6 * k + j)

  module _ (j : ℕ) (d xs : List ℕ) (ex : Filled 8 ssyb_at j d xs) where
    pub ssybs_turn : (ys : List ℕ) → ys ≡ ssyb first said (6 * k + j) → Filled 8 ssyb_at (j + 1) d (put_mid (j * 8) (j * 8 + 8 - j * 8) xs ys)
    ssybs_turn ys ey = filled_next 8 ssyb_at (λ i. ssyb_length said (6 * k + i) first) j d xs ys ex ey

    pub ssybs_done : length d ≡ 48 → j ≤ 6 → 6 ≤ j → xs ≡ ssybs first said k
    unfolding ssybs
    ssybs_done e le ge = filled_end 8 ssyb_at j 6 d xs ex e le ge

pub subcode_done : (xs ys zs ws : List ℕ) (id : BlockId) (first : Bool) (said : SubcodeData) (k : ℕ) → length xs ≡ 80 → ys ≡ replicate (length xs) 255 → zs ≡ id_bytes id
    → ws ≡ ssybs first said k → put_mid 3 48 (zs ++ post_of 0 3 ys) ws ≡ id_bytes id ++ subcode_bytes first said k
unfolding id_bytes subcode_bytes
subcode_done xs ys zs ws id first said k n ey ez ew = rw (ez, ey, n, ew) refl

-- ---- VAUX

module _ (vs vsc : Pack) (q k : ℕ) where
  abbrev pub pack_at : ℕ → List ℕ
  pack_at j = pack_bytes (vaux_pack vs vsc q (15 * k + j))

  module _ (j : ℕ) (d xs : List ℕ) (ex : Filled 5 pack_at j d xs) where
    pub packs_turn : (ys : List ℕ) (p : Pack) → p ≡ vaux_pack vs vsc q (15 * k + j) → ys ≡ pack_bytes p → Filled 5 pack_at (j + 1) d (put_mid (j * 5) (j * 5 + 5 - j * 5) xs ys)
    packs_turn ys p ep ey = filled_next 5 pack_at (λ i. refl) j d xs ys ex (ey ∙ ap pack_bytes ep)

    pub packs_done : length d ≡ 75 → j ≤ 15 → 15 ≤ j → xs ≡ vaux_packs vs vsc q k
    unfolding vaux_packs
    packs_done e le ge = filled_end 5 pack_at j 15 d xs ex e le ge

pub vaux_done : (xs ys zs ws : List ℕ) (id : BlockId) (vs vsc : Pack) (q k : ℕ) → length xs ≡ 80 → ys ≡ replicate (length xs) 255 → zs ≡ id_bytes id → ws ≡ vaux_packs vs vsc q k
    → put_mid 3 75 (zs ++ post_of 0 3 ys) ws ≡ id_bytes id ++ vaux_bytes vs vsc q k
unfolding id_bytes vaux_bytes
vaux_done xs ys zs ws id vs vsc q k n ey ez ew = rw (ez, ey, n, ew) refl

-- ---- audio

-- the last word is 0, and then the words are put
module _ (y : System) (samples : List ℤ) (q a : ℕ) (part : List ℕ) (asked : AudioAsked part 72 y samples a) where
  pub words_put_lem : (ys zs : List ℕ) → ys ≡ replicate (length (take 2 (drop 70 part))) 0
      → zs ≡ pick (words_fit (length (put_mid 70 2 part ys)) y (length samples) a) (words_put y samples q a (put_mid 70 2 part ys)) (put_mid 70 2 part ys) → zs ≡ run (word_bytes y samples q a) 36
  words_put_lem ys zs ey ez =
      let two : ys ≡ 0 ∷ 0 ∷ [] = ey ∙ rw (length_part 70 2 part (omega (arith, asked.long))) refl in
      let first : length (take 70 part) ≡ 70 = length-take-le 70 part (omega (arith, asked.long)) in
      let rest : drop 2 (drop 70 part) ≡ [] = drop-drop 2 70 part ∙ none_left 72 part asked.long in
      let tail : drop 70 (put_mid 70 2 part ys) ≡ 0 ∷ 0 ∷ [] = drop_at (take 70 part) _ 70 first ∙ rw (two, rest) refl in
      let long : length (put_mid 70 2 part ys) ≡ 72 = length-append (take 70 part) _ ∙ rw (first, two, rest) refl in
      ez ∙ put_fits y samples q a (put_mid 70 2 part ys) long asked.below asked.turns ∙ put_all y samples q a (put_mid 70 2 part ys) long tail

module _ (xs : List ℕ) (y : System) (samples : List ℤ) (a : ℕ) (asked : AudioAsked xs 80 y samples a) where
  pub words_asked : (part : List ℕ) → length part ≡ 72 → AudioAsked part 72 y samples a
  words_asked part n = record { long = n; below = asked.below; turns = asked.turns }

  pub audio_done : (q : ℕ) (zs ps ws : List ℕ) (id : BlockId) (source asc p : Pack) → p ≡ aaux_pack source asc q a → zs ≡ id_bytes id → ps ≡ pack_bytes p
      → ws ≡ run (word_bytes y samples q a) 36 → put_mid 8 72 (put_mid 3 5 (zs ++ post_of 0 3 xs) ps) ws ≡ id_bytes id ++ audio_bytes y source asc samples q a
  unfolding id_bytes audio_bytes
  audio_done q zs ps ws id source asc p ep ez eps ew =
      let rest : drop 72 (drop 5 (drop 3 xs)) ≡ [] = ap (drop 72) (drop-drop 5 3 xs) ∙ drop-drop 72 8 xs ∙ none_left 80 xs asked.long in
      rw (ez, eps, rest, append-nil, ew, ep) refl

-- ---- video

module _ (xs : List ℕ) (y : System) (h q v : ℕ) (macroblocks : List ℕ) (asked : VideoAsked xs y macroblocks) (r : Option ℕ) (er : r ≡ carried_in y (slot h q v)) where
  -- the macroblock that is carried is within those that are lent
  pub macroblock_within : (b : ℕ) → r ≡ Some b → 77 * b + 77 ≤ length macroblocks
  macroblock_within b e = omega (arith, asked.pictures, (carried_lies y (slot h q v) b (sym er ∙ e)).0)

  pub macroblock_done : (zs ws : List ℕ) (id : BlockId) (b : ℕ) → r ≡ Some b → zs ≡ id_bytes id → ws ≡ take (77 * b + 77 - 77 * b) (drop (77 * b) macroblocks)
      → put_mid 3 77 (zs ++ post_of 0 3 xs) ws ≡ id_bytes id ++ video_bytes y macroblocks h q v
  unfolding id_bytes video_bytes carried_bytes
  macroblock_done zs ws id b e ez ew =
      let rest : drop 77 (drop 3 xs) ≡ [] = drop-drop 77 3 xs ∙ none_left 80 xs asked.long in
      rw (ez, rest, append-nil, ← er, e, ew, range_part (77 * b) 77 macroblocks, tab_part 0 macroblocks (77 * b) 77 (macroblock_within b e)) refl

  pub empty_done : (zs part ws : List ℕ) (id : BlockId) → r ≡ None → zs ≡ id_bytes id → length part ≡ 77 → ws ≡ replicate (length part) 255
      → put_mid 3 77 (zs ++ post_of 0 3 xs) ws ≡ id_bytes id ++ video_bytes y macroblocks h q v
  unfolding id_bytes video_bytes carried_bytes
  empty_done zs part ws id e ez n ew =
      let rest : drop 77 (drop 3 xs) ≡ [] = drop-drop 77 3 xs ∙ none_left 80 xs asked.long in
      rw (ez, rest, append-nil, ← er, e, ew, n) refl
