-- Each way out of the writers of a sequence, a DIF channel and the frame, and of the call. Assumes nothing.
use mathlib.Core.Path.{◌≡◌, refl, sym, ap, ap₂, ◌∙◌, subst}
use mathlib.Core.Bool.{Bool, true}
use mathlib.Core.List.{List, ◌++◌, append-nil, append_assoc}
use Prim.Native.Nat.{ℕ, ◌+◌, ◌-◌, ◌*◌, ◌/◌, ◌%◌, ◌≤◌, ◌<◌}
use native.Mathlib.Omega.{arith}
use lib.Dec.{eqb, ltb}
use lib.IntN.{ℤ}
use lib.ListN.{length, take, drop, length-append, length-drop, take-append-drop}
use lib.Seq.{take_at, drop_at, drop-drop, take-append-add, drop-append-add, length-take-le}
use mir.Syntax.{w32, w64}
use mir.Val.{Fits}
use borrow.Author.Tests.{eq-eqb, lt-ltb, le-leb}
use borrow.Rule.Slice.PartMut.{put_mid, post_of}
use Rattle.base.specs.Pick.{pick}
use Rattle.base.specs.Run.{run, Wide}
use Rattle.base.proofs.Cases.{by_lt}
use Rattle.base.proofs.Picks.{pick_true}
use Rattle.base.proofs.Runs.{end_within, run_same, run_split, run_runs, length_run}
use Rattle.base.proofs.Filling.{Filled, filled_none, filled_next, filled_end}
use Rattle.base.proofs.Parts.{length_part, range_part, none_left}
use Rattle.paper.specs.declared.System.{System}
use Rattle.paper.specs.declared.Cause.{Cause}
use Rattle.paper.specs.Causes.{cause_number}
use Rattle.layout.specs.Asked.{FrameKnown}
use Rattle.layout.proofs.Saying.{never_zero}
use Rattle.paper.specs.declared.Section.{Section}
use Rattle.paper.specs.declared.Section.TheVariants.{Header, Subcode, Vaux, Audio, Video}
use Rattle.paper.specs.declared.Place.{Place}
use Rattle.paper.specs.declared.Entry.{Entry}
use Rattle.paper.specs.declared.BlockId.{BlockId}
use Rattle.paper.specs.declared.Pack.{Pack}
use Rattle.paper.specs.declared.SubcodeData.{SubcodeData}
use Rattle.paper.specs.declared.Repeated.{Repeated}
use Rattle.rules_format.specs.Systems.{sequences_of, half_of, is_count, macroblocks_of}
use Rattle.rules_format.specs.Places.{blocks_of, place, entry_at, place_in, place_for}
use Rattle.rules_format.specs.Ids.{id_bytes, id_of}
use Rattle.rules_format.specs.Sound.{audio_at}
use Rattle.rules_packs.specs.Header.{header_bytes}
use Rattle.rules_packs.specs.Subcode.{is_first, subcode_bytes}
use Rattle.rules_packs.specs.Vaux.{vaux_bytes}
use Rattle.rules_packs.specs.Aaux.{as_pack}
use Rattle.rules_packs.specs.Repeated.{repeated_of}
use Rattle.promises.specs.Contents.{Contents}
use Rattle.rules_writes.specs.Written.{samples_of, audio_bytes, video_bytes, Material, material_of, payload, written_block, written_sequence, written_channel}
use Rattle.rules_writes.specs.Write.{Takes, contents_of, written_frame, write_number, Wrote}
use Rattle.rules_format.proofs.Systems.{sequences_le, half_cases, half_twice, count_below, count_turns, positions_le}
use Rattle.rules_format.proofs.Places.{entry_place_in, place_for_lem, place_for_past}
use Rattle.rules_format.proofs.Sound.{Half, audio_within}
use Rattle.rules_packs.proofs.Packs.{header_length}
use Rattle.rules_packs.proofs.Subcode.{subcode_length}
use Rattle.rules_writes.proofs.Written
use Rattle.rules_writes.proofs.Written.{audio_length, video_length, block_entry, sequence_wide, channel_wide, samples_end, samples_length}
use Rattle.rules_writes.proofs.Write.{taken_takes, write_stopped, write_done}
use Rattle.blocks.specs.Fits.{number_fits, audio_fits, video_fits}
use Rattle.writer.specs.Asked.{ChannelAsked, SamplesAsked, VideosAsked, BankAsked, SequenceAsked, ChannelPartAsked}
use Rattle.writer.specs.Blocks.{section_block, first_blocks, head_blocks, video_blocks, bank_blocks}

-- ---- parts that are lent one after the other

-- a part behind the first n
behind_first : (n m : ℕ) (zs rs xs : List ℕ) → length zs ≡ n → put_mid n m (zs ++ drop n xs) rs ≡ zs ++ (rs ++ drop (n + m) xs)
behind_first n m zs rs xs ez = rw (take_at zs (drop n xs) n ez, drop_at zs (drop n xs) n ez, drop-drop m n xs) refl

two_parts : (n m : ℕ) (zs rs xs : List ℕ) → length zs ≡ n → length xs ≡ n + m → put_mid n m (zs ++ post_of 0 n xs) rs ≡ zs ++ rs
two_parts n m zs rs xs ez ex = behind_first n m zs rs xs ez ∙ rw (none_left (n + m) xs ex, append-nil) refl

three_parts : (n m o : ℕ) (zs rs vs xs : List ℕ) → length zs ≡ n → length rs ≡ m → length xs ≡ n + m + o
    → put_mid (n + m) o (put_mid n m (zs ++ post_of 0 n xs) rs) vs ≡ zs ++ (rs ++ vs)
three_parts n m o zs rs vs xs ez er ex =
    let both : length (zs ++ rs) ≡ n + m = length-append zs rs ∙ omega arith in
    ap (λ (l : List ℕ). put_mid (n + m) o l vs) (behind_first n m zs rs xs ez ∙ sym (append_assoc zs rs (drop (n + m) xs)))
    ∙ behind_first (n + m) o (zs ++ rs) vs xs both
    ∙ rw (none_left (n + m + o) xs ex, append-nil, append_assoc) refl

-- the part of m bytes from byte a on
part_long : (xs : List ℕ) (a m : ℕ) → a + m ≤ length xs → length (take (a + m - a) (drop a xs)) ≡ m
part_long xs a m l = ap length (range_part a m xs) ∙ length_part a m xs l

-- what is filled part by part behind its first o bytes
abbrev pub FilledFrom : ℕ → ℕ → (ℕ → List ℕ) → ℕ → List ℕ → List ℕ → Type 0
FilledFrom o w f k before now = now ≡ take o before ++ (run f k ++ drop (k * w) (drop o before))

put_behind : (hs ys zs : List ℕ) (n m : ℕ) → put_mid (length hs + n) m (hs ++ ys) zs ≡ hs ++ put_mid n m ys zs
put_behind hs ys zs n m = rw (take-append-add hs ys n, drop-append-add hs ys n) (append_assoc hs (take n ys) (zs ++ drop m (drop n ys)))

pub from_none : (o w : ℕ) (f : ℕ → List ℕ) (d : List ℕ) → FilledFrom o w f 0 d d
from_none o w f d = sym (take-append-drop o d) ∙ ap (λ (l : List ℕ). take o d ++ l) (filled_none w f (drop o d))

module _ (o w : ℕ) (f : ℕ → List ℕ) (wide : Wide w f) (k : ℕ) (d xs ys : List ℕ) (room : o ≤ length d) (ex : FilledFrom o w f k d xs) where
  from_next : (at : ℕ) → at ≡ o + k * w → ys ≡ f k → FilledFrom o w f (k + 1) d (put_mid at (at + w - at) xs ys)
  from_next at e ey =
      let long : length (take o d) ≡ o = length-take-le o d room in
      let start : at ≡ length (take o d) + k * w = e ∙ ap (λ (n : ℕ). n + k * w) (sym long) in
      let wide' : at + w - at ≡ k * w + w - k * w = omega arith in
      ap (λ (l : List ℕ). put_mid at (at + w - at) l ys) ex
      ∙ ap₂ (λ (a m : ℕ). put_mid a m (take o d ++ (run f k ++ drop (k * w) (drop o d))) ys) start wide'
      ∙ put_behind (take o d) (run f k ++ drop (k * w) (drop o d)) ys (k * w) (k * w + w - k * w)
      ∙ ap (λ (l : List ℕ). take o d ++ l) (filled_next w f wide k (drop o d) (run f k ++ drop (k * w) (drop o d)) ys refl ey)

-- ---- where blocks stand

some_blocks : (s : Section) → 0 < blocks_of s
some_blocks Header = omega arith
some_blocks Subcode = omega arith
some_blocks Vaux = omega arith
some_blocks Audio = omega arith
some_blocks Video = omega arith

pub start_is : (s : Section) (p : Place) → p ≡ place_for s (record { 0 = 0 }) → p.0 * 80 ≡ place_in s 0 * 80
start_is s p ep = ap (λ (x : Place). x.0 * 80) (ep ∙ place_for_lem s _ (some_blocks s))

-- the place of A(a), and the number behind it
module _ (a : ℕ) (p : Place) (ep : p ≡ place_for Audio (record { 0 = a })) where
  pub behind_fits : Fits w32 (p.0 + 1)
  behind_fits =
      by_lt a 9
      (λ h. omega (arith, ap (λ (x : Place). x.0) (ep ∙ place_for_lem Audio _ h)))
      (λ h. omega (arith, ap (λ (x : Place). x.0) (ep ∙ place_for_past Audio _ h)))

  pub behind_is : (e : Entry) → e ≡ entry_at (place (p.0 + 1)) → e.number.0 ≡ (entry_at (place ((place_for Audio (record { 0 = a })).0 + 1))).number.0
  behind_is e ee = ap (λ (x : Entry). x.number.0) ee ∙ ap (λ (x : Place). (entry_at (place (x.0 + 1))).number.0) ep

  module _ (ha : a < 9) where
    bank_stands : p.0 ≡ 6 + 16 * a
    bank_stands = ap (λ (x : Place). x.0) (ep ∙ place_for_lem Audio _ ha)

-- V(15a) is behind A(a)
behind_first_video : (a v : ℕ) → a < 9 → v ≡ (entry_at (place ((place_for Audio (record { 0 = a })).0 + 1))).number.0 → v ≡ 15 * a
behind_first_video a v ha ev =
    let at : (place_for Audio (record { 0 = a })).0 + 1 ≡ place_in Video (15 * a) = omega (arith, bank_stands a (place_for Audio (record { 0 = a })) refl ha) in
    ev ∙ ap (λ (n : ℕ). (entry_at (place n)).number.0) at ∙ ap (λ (x : Entry). x.number.0) (entry_place_in Video (15 * a) (omega arith))

-- ---- blocks, one after the other

-- block k of n comes back from its writer
pub blocks_turn : (bytes : ℕ → List ℕ) → Wide 80 bytes → (k n : ℕ) (d xs ys : List ℕ) → Filled 80 bytes k d xs → k < n → length d ≡ n * 80 → length xs ≡ length d
    → (length (take (k * 80 + 80 - k * 80) (drop (k * 80) xs)) ≡ 80 → ys ≡ bytes k) → Filled 80 bytes (k + 1) d (put_mid (k * 80) (k * 80 + 80 - k * 80) xs ys)
blocks_turn bytes wide k n d xs ys ex hk len same ey = filled_next 80 bytes wide k d xs ys ex (ey (part_long xs (k * 80) 80 (omega (arith, same, len))))

-- what fits is written
written : (b : Bool) (ws ps zs : List ℕ) → b ≡ true → zs ≡ pick b ws ps → zs ≡ ws
written b ws ps zs e ez = ez ∙ pick_true ws ps e

number_fits_lem : (n k m : ℕ) → n ≡ 80 → k < m → number_fits n k m ≡ true
number_fits_lem n k m e l = rw (eq-eqb _ _ e, lt-ltb _ _ l) refl

pub block_wide : (h q : ℕ) (s : Section) (payload : ℕ → List ℕ) → Wide 77 payload → Wide 80 (section_block h q s payload)
unfolding id_bytes
block_wide h q s payload wide k = omega (arith, wide k)

-- a lent block as its writer leaves it
pub subcode_left : (y : System) (h q : ℕ) (said : SubcodeData) (k s : ℕ) (xs ys zs : List ℕ) (i : BlockId) → k < 2 → length xs ≡ 80 → i ≡ id_of h q Subcode k → s ≡ half_of y
    → ys ≡ pick (number_fits (length xs) i.dbn.0 2) (id_bytes i ++ subcode_bytes (ltb q s) said i.dbn.0) xs → zs ≡ ys → zs ≡ section_block h q Subcode (subcode_bytes (is_first y q) said) k
subcode_left y h q said k s xs ys zs i hk long ei es ey ez = ez ∙ written (number_fits (length xs) k 2) (section_block h q Subcode (subcode_bytes (is_first y q) said) k) xs ys (number_fits_lem _ k 2 long hk) (ey ∙ rw (ei, es) refl)

pub vaux_left : (h q : ℕ) (vs vsc : Pack) (k : ℕ) (xs ys zs : List ℕ) (i : BlockId) → k < 3 → length xs ≡ 80 → i ≡ id_of h q Vaux k
    → ys ≡ pick (number_fits (length xs) i.dbn.0 3) (id_bytes i ++ vaux_bytes vs vsc i.dseq i.dbn.0) xs → zs ≡ ys → zs ≡ section_block h q Vaux (vaux_bytes vs vsc q) k
vaux_left h q vs vsc k xs ys zs i hk long ei ey ez = ez ∙ written (number_fits (length xs) k 3) (section_block h q Vaux (vaux_bytes vs vsc q) k) xs ys (number_fits_lem _ k 3 long hk) (ey ∙ rw ei refl)

-- ---- the six blocks before the banks

-- the parts end where SC0, VA0 and A0 stand
pub head_done : (y : System) (h q : ℕ) (r : Repeated) (a b e : ℕ) (xs zs ss vs : List ℕ) (i : BlockId) → length xs ≡ 480 → a ≡ place_in Subcode 0 * 80 → b ≡ place_in Vaux 0 * 80
    → e ≡ place_in Audio 0 * 80 → i ≡ id_of h q Header 0
    → zs ≡ pick (eqb (length (take (a - 0) (drop 0 xs))) 80) (id_bytes i ++ header_bytes y) (take (a - 0) (drop 0 xs))
    → ss ≡ first_blocks h q Subcode (subcode_bytes (is_first y q) r.subcode) 2 → vs ≡ first_blocks h q Vaux (vaux_bytes r.vs r.vsc q) 3
    → put_mid b (e - b) (put_mid a (b - a) (zs ++ post_of 0 (a - 0) xs) ss) vs ≡ head_blocks y r h q
unfolding head_blocks first_blocks id_bytes
head_done y h q r a b e xs zs ss vs i ex ea eb ee ei ez ess ev =
    let fits : length (take (a - 0) (drop 0 xs)) ≡ 80 = rw ea (length-take-le 80 xs (omega (arith, ex))) in
    let here : zs ≡ id_bytes (id_of h q Header 0) ++ header_bytes y = written _ _ _ zs (eq-eqb _ _ fits) ez ∙ rw ei refl in
    let long : length zs ≡ 80 = ap length here ∙ omega (arith, header_length y) in
    let subcodes : ℕ → List ℕ = subcode_bytes (is_first y q) r.subcode in
    let two : length ss ≡ 160 = ap length ess ∙ length_run 80 (section_block h q Subcode subcodes) (block_wide h q Subcode subcodes (subcode_length (is_first y q) r.subcode)) 2 in
    let parts : put_mid 240 240 (put_mid 80 160 (zs ++ post_of 0 80 xs) ss) vs ≡ zs ++ (ss ++ vs) = three_parts 80 160 240 zs ss vs xs long two ex in
    let blocks : zs ++ (ss ++ vs) ≡ head_blocks y r h q = rw (here, ess, ev) refl in
    rw (ea, eb, ee) (parts ∙ blocks)

-- ---- the video blocks of a bank

module _ (y : System) (macroblocks : List ℕ) (h q v : ℕ) where
  abbrev pub video_in : ℕ → List ℕ
  video_in j = section_block h q Video (video_bytes y macroblocks h q) (v + j)

  video_fits_lem : (n : ℕ) → n ≡ 80 → length macroblocks ≡ 77 * macroblocks_of y → video_fits n y (length macroblocks) ≡ true
  unfolding video_fits
  video_fits_lem n long pictures = rw (eq-eqb _ _ long, eq-eqb _ _ pictures) refl

  pub videos_wide : Wide 80 video_in
  videos_wide n = block_wide h q Video (video_bytes y macroblocks h q) (video_length y macroblocks h q) (v + n)

  pub video_left : (j : ℕ) (xs ys zs : List ℕ) (i : BlockId) → length macroblocks ≡ 77 * macroblocks_of y → length xs ≡ 80 → i ≡ id_of h q Video (v + j)
      → ys ≡ pick (video_fits (length xs) y (length macroblocks)) (id_bytes i ++ video_bytes y macroblocks i.channel i.dseq i.dbn.0) xs → zs ≡ ys → zs ≡ video_in j
  video_left j xs ys zs i pictures long ei ey ez = ez ∙ written _ _ _ ys (video_fits_lem _ long pictures) ey ∙ rw ei refl

-- ---- a bank

pub videos_asked : (a : ℕ) (xs ws : List ℕ) (v : ℕ) → BankAsked xs a → length ws ≡ 1200 → v ≡ (entry_at (place ((place_for Audio (record { 0 = a })).0 + 1))).number.0 → VideosAsked ws v
videos_asked a xs ws v asked n ev = record { long = n; below = omega (arith, asked.below, behind_first_video a v asked.below ev) }

module _ (y : System) (h q a : ℕ) (source asc : Pack) (samples : List ℤ) (macroblocks xs : List ℕ) (asked : BankAsked xs a) (turns : 315 * half_of y ≤ length samples) where
  audio_fits_lem : (ps : List ℕ) → length ps ≡ 80 → audio_fits (length ps) y (length samples) a ≡ true
  unfolding audio_fits
  audio_fits_lem ps n = rw (eq-eqb _ _ n, lt-ltb _ _ asked.below, le-leb _ _ turns) refl

  pub bank_done : (ps zs vs : List ℕ) (i : BlockId) (v : ℕ) → length ps ≡ 80 → i ≡ id_of h q Audio a → v ≡ (entry_at (place ((place_for Audio (record { 0 = a })).0 + 1))).number.0
      → zs ≡ pick (audio_fits (length ps) y (length samples) i.dbn.0) (id_bytes i ++ audio_bytes y source asc samples i.dseq i.dbn.0) ps
      → vs ≡ video_blocks y macroblocks h q v → put_mid 80 1200 (zs ++ post_of 0 80 xs) vs ≡ bank_blocks y source asc samples macroblocks h q a
  unfolding bank_blocks
  bank_done ps zs vs i v n ei e ez ev =
      let here : zs ≡ section_block h q Audio (audio_bytes y source asc samples q) a = written _ _ ps zs (audio_fits_lem ps n) (ez ∙ rw ei refl) in
      let long : length zs ≡ 80 = ap length here ∙ block_wide h q Audio (audio_bytes y source asc samples q) (audio_length y source asc samples q) a in
      two_parts 80 1200 zs vs xs long asked.long ∙ rw (here, ev, behind_first_video a v asked.below e) refl

-- ---- the banks

module _ (d xs : List ℕ) (long : length d ≡ 12000) (a : ℕ) (p : Place) (ep : p ≡ place_for Audio (record { 0 = a })) (ha : a < 9) (same : length xs ≡ length d) where
  pub bank_ends : p.0 * 80 + 1280 ≤ length xs
  bank_ends = omega (arith, same, long, bank_stands a p ep ha)

  pub bank_asked : BankAsked (take (p.0 * 80 + 1280 - p.0 * 80) (drop (p.0 * 80) xs)) a
  bank_asked = record { long = part_long xs (p.0 * 80) 1280 bank_ends; below = ha }

module _ (y : System) (h q : ℕ) (source asc : Pack) (samples : List ℤ) (macroblocks : List ℕ) where
  abbrev pub bank_at : ℕ → List ℕ
  bank_at = bank_blocks y source asc samples macroblocks h q

  bank_wide : Wide 1280 bank_at
  unfolding bank_blocks video_blocks
  bank_wide a =
      let first = block_wide h q Audio (audio_bytes y source asc samples q) (audio_length y source asc samples q) a in
      let videos : ℕ → List ℕ = video_in y macroblocks h q (15 * a) in
      let rest = length_run 80 videos (λ j. block_wide h q Video (video_bytes y macroblocks h q) (video_length y macroblocks h q) (15 * a + j)) 15 in
      length-append (section_block h q Audio (audio_bytes y source asc samples q) a) (run videos 15) ∙ omega (arith, first, rest)

  module _ (d xs : List ℕ) (long : length d ≡ 12000) (a : ℕ) (p : Place) (ep : p ≡ place_for Audio (record { 0 = a })) (ha : a < 9) (same : length xs ≡ length d) where
    pub banks_turn : (ys : List ℕ) → FilledFrom 480 1280 bank_at a d xs → ys ≡ bank_blocks y source asc samples macroblocks h q a
        → FilledFrom 480 1280 bank_at (a + 1) d (put_mid (p.0 * 80) (p.0 * 80 + 1280 - p.0 * 80) xs ys)
    banks_turn ys ex ey = from_next 480 1280 bank_at bank_wide a d xs ys (omega (arith, long)) ex (p.0 * 80) (omega (arith, bank_stands a p ep ha)) ey

  pub banks_done : (d xs : List ℕ) (a : ℕ) → length d ≡ 12000 → FilledFrom 480 1280 bank_at a d xs → a ≤ 9 → 9 ≤ a → xs ≡ take 480 d ++ run bank_at 9
  banks_done d xs a long ex le ge =
      let rest : length (drop 480 d) ≡ 9 * 1280 = omega (arith, length-drop 480 d, long) in
      ex ∙ ap (λ (l : List ℕ). take 480 d ++ l) (filled_end 1280 bank_at a 9 (drop 480 d) (run bank_at a ++ drop (a * 1280) (drop 480 d)) refl rest le ge)

-- ---- the sequence: by the place rule it is the six blocks and the nine banks

module _ (y : System) (m : Material) (h q : ℕ) where
  abbrev at_place : ℕ → List ℕ
  at_place = written_block y m h q

  -- the block at the place of block k of section s
  stands : (s : Section) (k p : ℕ) → k < blocks_of s → p ≡ place_in s k → at_place p ≡ section_block h q s (payload y m h q s) k
  stands s k p hk e = ap at_place e ∙ block_entry y m h q s k hk

  head_places : run at_place 6 ≡ head_blocks y m.repeated h q
  unfolding head_blocks first_blocks payload run
  head_places =
      run_split at_place 1 5
      ∙ ap₂ ◌++◌ (stands Header 0 0 (omega arith) refl) (run_split (λ (i : ℕ). at_place (1 + i)) 2 3
      ∙ ap₂ ◌++◌ (run_same _ _ 2 (λ k hk. stands Subcode k (1 + k) hk refl)) (run_same _ _ 3 (λ k hk. stands Vaux k (1 + (2 + k)) hk (omega arith))))

  module _ (c : ℕ) (ec : c ≡ audio_at (half_of y) h q) where
    abbrev bank : ℕ → List ℕ
    bank = bank_blocks y (as_pack y m.count c) m.repeated.asc (samples_of m.count m.sound c) m.macroblocks h q

    -- A(a), if its audio channel is i
    abbrev audio_block : ℕ → ℕ → List ℕ
    audio_block a i = section_block h q Audio (audio_bytes y (as_pack y m.count i) m.repeated.asc (samples_of m.count m.sound i) q) a

    bank_places : (a : ℕ) → a < 9 → run (λ (j : ℕ). at_place (6 + (16 * a + j))) 16 ≡ bank a
    unfolding bank_blocks video_blocks payload run
    bank_places a ha =
        run_split (λ (j : ℕ). at_place (6 + (16 * a + j))) 1 15
        ∙ ap₂ ◌++◌ (stands Audio a (6 + (16 * a + 0)) ha (omega arith) ∙ ap (audio_block a) (sym ec))
        (run_same _ _ 15 (λ j hj. stands Video (15 * a + j) (6 + (16 * a + (1 + j))) (omega arith) (omega arith)))

    banks_places : run (λ (i : ℕ). at_place (6 + i)) 144 ≡ run bank 9
    banks_places =
        run_same _ _ 144 (λ i hi. let e : 6 + i ≡ 6 + (16 * (i / 16) + i % 16) = omega arith in ap at_place e)
        ∙ run_runs (λ (a j : ℕ). at_place (6 + (16 * a + j))) 16 9 (omega arith)
        ∙ run_same _ _ 9 bank_places

    sequence_is : written_sequence y m h q ≡ head_blocks y m.repeated h q ++ run bank 9
    unfolding written_sequence
    sequence_is = run_split at_place 6 144 ∙ ap₂ ◌++◌ head_places banks_places

module _ (y : System) (h q : ℕ) (xs : List ℕ) (asked : SequenceAsked xs y h q) (s : ℕ) (es : s ≡ half_of y) where
  half : Half s
  half = subst Half (sym es) (half_cases y)

  below : q < 2 * s
  below = omega (arith, asked.sequence, half_twice y, es)

  pub channel_asked : ChannelAsked s h q
  channel_asked = record { half = half; channel = asked.channel; sequence = below }

  module _ (c : ℕ) (ec : c ≡ audio_at s h q) where
    within : (0 < c) × (c < 9)
    within = rw ec (audio_within s h q half below asked.channel)

    module _ (count : ℕ) (sound : List ℤ) (counts : is_count y count ≡ true) (sounds : length sound ≡ 8 * count) where
      pub samples_asked : SamplesAsked sound c count
      samples_asked = record {
        above = within.0;
        below = within.1;
        counted = omega (arith, count_below y count counts, positions_le y);
        sounds = sounds;
      }

      pub bank_turns : (samples : List ℤ) → samples ≡ samples_of count sound c → 315 * half_of y ≤ length samples
      bank_turns samples e =
          let len : length samples ≡ count = ap length e ∙ samples_length count sound c within.0 within.1 sounds in
          let turns : 9 * half_of y * 35 ≤ count = count_turns y count counts in
          omega (arith, len, turns)

    pub sequence_done : (count : ℕ) (sound : List ℤ) (macroblocks : List ℕ) (r : Repeated) (source : Pack) (samples : List ℤ) (head : ℕ) (zs bs : List ℕ) → source ≡ as_pack y count c → samples ≡ samples_of count sound c → zs ≡ head_blocks y r h q
        → bs ≡ take 480 (zs ++ post_of 0 head xs) ++ run (bank_blocks y source r.asc samples macroblocks h q) 9 → bs ≡ written_sequence y (material_of r count sound macroblocks) h q
    sequence_done count sound macroblocks r source samples head zs bs eo ea ez eb =
        let m : Material = material_of r count sound macroblocks in
        let long : length zs ≡ 480 = ap length (ez ∙ sym (head_places y m h q)) ∙ length_run 80 (written_block y m h q) (Written.block_wide y m h q) 6 in
        eb ∙ rw (take_at zs (post_of 0 head xs) 480 long, ez, eo, ea) (sym (sequence_is y m h q c (ec ∙ ap (λ (i : ℕ). audio_at i h q) es)))

-- ---- the samples of an audio channel

pub samples_lent : (sound : List ℤ) (c count : ℕ) → take ((c - 1) * count + count - (c - 1) * count) (drop ((c - 1) * count) sound) ≡ samples_of count sound c
unfolding samples_of
samples_lent sound c count = range_part ((c - 1) * count) count sound

module _ (sound : List ℤ) (c count : ℕ) (asked : SamplesAsked sound c count) where
  pub samples_within : (c - 1) * count + count ≤ length sound
  samples_within = samples_end count sound c asked.above asked.below asked.sounds

  pub samples_fit : Fits w64 ((c - 1) * count)
  samples_fit = omega (arith, samples_within, asked.counted, asked.sounds)

  pub samples_end_fits : Fits w64 ((c - 1) * count + count)
  samples_end_fits = omega (arith, samples_within, asked.counted, asked.sounds)

  pub samples_bytes_fit : Fits w64 ((c - 1) * count * 4)
  samples_bytes_fit = omega (arith, samples_within, asked.counted, asked.sounds)

-- ---- a DIF channel

module _ (y : System) (h q : ℕ) (m : Material) (d xs : List ℕ) (ex : Filled 12000 (written_sequence y m h) q d xs) where
  pub channel_turn : (ys : List ℕ) → ys ≡ written_sequence y m h q → Filled 12000 (written_sequence y m h) (q + 1) d (put_mid (q * 12000) (q * 12000 + 12000 - q * 12000) xs ys)
  channel_turn ys ey = filled_next 12000 (written_sequence y m h) (sequence_wide y m h) q d xs ys ex ey

  pub channel_done : (n : ℕ) → n ≡ sequences_of y → length d ≡ sequences_of y * 12000 → q ≤ n → n ≤ q → xs ≡ written_channel y m h
  unfolding written_channel
  channel_done n en len le ge = filled_end 12000 (written_sequence y m h) q (sequences_of y) d xs ex len (omega arith) (omega arith)

-- sequence q of n is within the channel's part
module _ (y : System) (q n : ℕ) (en : n ≡ sequences_of y) (hq : q < n) where
  pub sequence_in : q < sequences_of y
  sequence_in = omega arith

  pub sequence_next : q + 1 ≤ sequences_of y
  sequence_next = omega arith

  pub sequence_asked : (part xs : List ℕ) (h : ℕ) → ChannelPartAsked part y h → length xs ≡ length part
      → SequenceAsked (take (q * 12000 + 12000 - q * 12000) (drop (q * 12000) xs)) y h q
  sequence_asked part xs h a same = record {
    long = ap length (range_part (q * 12000) 12000 xs) ∙ length_part (q * 12000) 12000 xs (omega (arith, same, a.long, end_within 12000 q (sequences_of y) sequence_in));
    channel = a.channel;
    sequence = sequence_in;
  }

-- ---- the frame

module _ (y : System) (h n : ℕ) (en : n ≡ sequences_of y) (m : Material) (d xs : List ℕ) (ex : Filled (sequences_of y * 12000) (written_channel y m) h d xs) where
  pub frame_turn : (ys : List ℕ) → ys ≡ written_channel y m h
      → Filled (sequences_of y * 12000) (written_channel y m) (h + 1) d (put_mid (h * (n * 12000)) (h * (n * 12000) + n * 12000 - h * (n * 12000)) xs ys)
  frame_turn ys ey = rw en (filled_next (sequences_of y * 12000) (written_channel y m) (channel_wide y m) h d xs ys ex ey)

pub frame_none : (y : System) (m : Material) (d : List ℕ) → Filled (sequences_of y * 12000) (written_channel y m) 0 d d
frame_none y m d = filled_none (sequences_of y * 12000) (written_channel y m) d

pub frame_done : (y : System) (h : ℕ) (m : Material) (d xs : List ℕ) → Filled (sequences_of y * 12000) (written_channel y m) h d xs → length d ≡ 48000 * sequences_of y → h ≤ 4 → 4 ≤ h
    → xs ≡ run (written_channel y m) 4
frame_done y h m d xs ex len le ge = filled_end (sequences_of y * 12000) (written_channel y m) h 4 d xs ex (omega arith) le ge

-- DIF channel h is within the frame
module _ (y : System) (h n : ℕ) (en : n ≡ sequences_of y) where
  pub size_fits : Fits w64 (n * 12000)
  size_fits = omega (arith, sequences_le y)

  module _ (hh : h < 4) where
    size_end : h * (n * 12000) + n * 12000 ≤ 4 * (n * 12000)
    size_end = end_within (n * 12000) h 4 hh

    pub start_fits : Fits w64 (h * (n * 12000))
    start_fits = omega (arith, size_end, sequences_le y)

    pub end_fits : Fits w64 (h * (n * 12000) + n * 12000)
    end_fits = omega (arith, size_end, sequences_le y)

    pub channel_within : (frame part : List ℕ) → length frame ≡ 48000 * sequences_of y → length part ≡ length frame → h * (n * 12000) + n * 12000 ≤ length part
    channel_within frame part long same = omega (arith, size_end, long)

    pub channel_part_asked : (frame xs : List ℕ) → length frame ≡ 48000 * sequences_of y → length xs ≡ length frame
        → ChannelPartAsked (take (h * (n * 12000) + n * 12000 - h * (n * 12000)) (drop (h * (n * 12000)) xs)) y h
    channel_part_asked frame xs long same = record {
      long = ap length (range_part (h * (n * 12000)) (n * 12000) xs) ∙ length_part (h * (n * 12000)) (n * 12000) xs (channel_within frame xs long same) ∙ ap (λ (i : ℕ). i * 12000) en;
      channel = hh;
    }

-- ---- the call

-- what is in order has the lengths that the writers ask
module _ (k : ℕ) (y : System) (count : ℕ) (sound : List ℤ) (macroblocks time group frame : List ℕ) (is : FrameKnown k (length frame) y)
    (en : 0 ≡ write_number k (contents_of count sound macroblocks time group) (length frame)) where
  takes : Takes y (contents_of count sound macroblocks time group) (length frame)
  takes = taken_takes k (contents_of count sound macroblocks time group) (length frame) y is.known (sym en)

  pub frame_asked : length frame ≡ 48000 * sequences_of y
  frame_asked = takes.frame

  pub counts_asked : is_count y count ≡ true
  counts_asked = takes.counts

  pub sounds_asked : length sound ≡ 8 * count
  sounds_asked = takes.sounds

  pub pictures_asked : length macroblocks ≡ 77 * macroblocks_of y
  pictures_asked = takes.pictures

-- a refusal, as the call leaves it
pub write_stops : (k : ℕ) (l : Contents) (frame : List ℕ) (cause : Cause) → cause_number cause ≡ write_number k l (length frame) → (n : ℕ) → n ≡ cause_number cause → Wrote k l frame n frame
write_stops k l frame cause e n en = write_stopped k l frame n (en ∙ e) (λ z. never_zero cause (sym en ∙ z))

pub frame_left : (k : ℕ) (y : System) (l : Contents) (frame frame' : List ℕ) (repeated : Repeated) → FrameKnown k (length frame) y → 0 ≡ write_number k l (length frame)
    → repeated ≡ repeated_of y l.time_code l.binary_group → frame' ≡ run (written_channel y (material_of repeated l.count l.sound l.macroblocks)) 4 → Wrote k l frame 0 frame'
unfolding written_frame
frame_left k y l frame frame' repeated is en ep e = write_done k y l frame frame' 0 is.known en refl (e ∙ rw ep refl)
