-- The packs of the audio blocks (document 01, "AAUX"). Audio channels are 1 to 8.
use Rattle.std.specs.Prelude.{◌≡◌, Bool, true, ◌&&◌, ◌||◌, List, ◌⊎◌, ℕ, ◌+◌, ◌*◌, ◌/◌, ◌%◌, ◌<◌, eqb, ltb}
use Rattle.base.specs.Pick.{pick}
use Rattle.paper.specs.declared.System.{System}
use Rattle.paper.specs.declared.Pack.{Pack}
use Rattle.rules_format.specs.Systems.{rate_of, is_count}
use Rattle.rules_packs.specs.Packs.{pack_in, ones_after, pair_at}

-- "AS is pack 3 in even sequences, 0 in odd"
unfoldable pub as_at : ℕ → ℕ
as_at q = pick (eqb (q % 2) 0) 3 0

-- "AF size .. (20, 22, 24 for 1,600, 1,602, 1,920 ..)"; a count that is none of them is refused before
unfoldable pub size_of : ℕ → ℕ
size_of count = pick (eqb count 1600) 20 (pick (eqb count 1602) 22 24)

-- the count of an AF size; 0 for any other size
unfoldable pub count_of : ℕ → ℕ
count_of size = pick (eqb size 20) 1600 (pick (eqb size 22) 1602 (pick (eqb size 24) 1920 0))

-- "mode in bits 3-0 (0 for channels 1, 3, 5, 7; 1 for 2, 4, 6, 8 ..)"
abbrev pub mode_of : ℕ → ℕ
mode_of c = (c + 1) % 2

-- ---- what is written

-- "AS: 50h; LF 0 in bit 7 and AF size in bits 5-0 ..; bit 7 zero, CHN 00 in bits 6-5, mode in bits 3-0 ..; 50/60 bit 5, STYPE 00011;
-- SMP and QU 000 in bits 5-0"
unfoldable pub as_pack : System → ℕ → ℕ → Pack
as_pack y count c = record { pc0 = 0x50; pc1 = 0x40 + size_of count; pc2 = 0x10 + mode_of c; pc3 = 0xC3 + rate_of y * 0x20; pc4 = 0xC0 }

-- "ASC (51h, four FFh) follows."
abbrev pub asc_pack : Pack
asc_pack = ones_after 0x51

-- pack a of sequence q, in A(a), of the AS of its audio channel and the ASC
abbrev pub aaux_pack : Pack → Pack → ℕ → ℕ → Pack
aaux_pack source asc q a = pair_at (as_at q) source asc a

-- ---- what is judged

-- the count that an AS says
abbrev pub count_in : Pack → ℕ
count_in p = count_of (p.pc1 % 64)

-- the mode that it says
abbrev pub mode_in : Pack → ℕ
mode_in p = p.pc2 % 16

-- 1111: "invalid audio data, a legal state"
abbrev pub is_mark : ℕ → Bool
is_mark mode = eqb mode 0xF

-- the audio channel's own mode, or the mark
abbrev pub mode_ok : ℕ → ℕ → Bool
mode_ok c mode = eqb mode (mode_of c) || is_mark mode

-- not 24: an AS of audio channel c keeps the rules; "only the system's own counts"
abbrev pub as_ok : System → ℕ → Pack → Bool
as_ok y c p =
    eqb p.pc0 0x50
    && (ltb p.pc1 128
    && (is_count y (count_in p)
    && (ltb p.pc2 32
    && (mode_ok c (mode_in p)
    && (eqb (p.pc3 / 32 % 2) (rate_of y)
    && (eqb (p.pc3 % 32) 3
    && eqb (p.pc4 % 64) 0))))))

pub record As (y : System) (c : ℕ) (p : Pack) : Type 0 where
  pub header : p.pc0 ≡ 0x50
  pub lf : p.pc1 < 128
  pub count : is_count y (count_in p) ≡ true
  pub chn : p.pc2 < 32
  pub mode : (mode_in p ≡ mode_of c) ⊎ (mode_in p ≡ 0xF)
  pub rate : p.pc3 / 32 % 2 ≡ rate_of y
  pub stype : p.pc3 % 32 ≡ 3
  pub smp_qu : p.pc4 % 64 ≡ 0

-- "Bytes 3-7 of A0-A8 are packs 0-8."
abbrev pub aaux_in : List ℕ → Pack
aaux_in block = pack_in block 3
