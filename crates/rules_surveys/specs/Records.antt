-- Survey records in a lent list (document 01: "Survey records are four unsigned 32-bit numbers").
use Rattle.std.specs.Prelude.{List, [], ◌∷◌, ◌++◌, ℕ, ◌*◌, ◌/◌, length, take, drop}
use Rattle.paper.specs.declared.Fault.{Fault}

-- "channel, sequence, place, fault"
unfoldable pub numbers : Fault → List ℕ
numbers f = f.channel ∷ f.sequence ∷ f.place.0 ∷ f.fault ∷ []

-- how many they are
abbrev pub width : ℕ
width = 4

-- record after record
unfoldable pub flat : List Fault → List ℕ
flat [] = []
flat (f ∷ fs) = numbers f ++ flat fs

-- "Room is the list's length div 4"
unfoldable pub room : List ℕ → ℕ
room list = length list / width

-- "the first faults are kept"
unfoldable pub kept : List ℕ → List Fault → List Fault
kept list fs = take (room list) fs

-- the list afterwards: the kept records, and "unused entries stay"
unfoldable pub after : List ℕ → List Fault → List ℕ
after list fs = flat (kept list fs) ++ drop (width * length (kept list fs)) list
