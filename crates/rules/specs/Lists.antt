-- 01, 'Lists': the list rule for one list whose members are under it already. `true` is ALLOF, `false` ANYOF.
use Rattle.std.proofs.Math.Bool as Bool
use Rattle.std.specs.Prelude.{Bool, false, ◌||◌, cond}
use Rattle.reading.specs.Formula.{Formula, Formulas, atom, not, list, quant, window, none, more}
use Rattle.rules.specs.Pushing.{under}

-- the true record is ALLOF of 0, the false record ANYOF of 0
abbrev pub sure_record : Bool → Formula
sure_record b = list b none

-- what a formula says at once
pub data Known : Type 0 where
  decided : Bool → Known
  unknown : Known

abbrev pub known_list : Bool → Formulas → Known
known_list b none = decided b
known_list b (more f fs) = unknown

abbrev pub known : Formula → Known
known (atom c ns) = unknown
known (not f) = unknown
known (list b fs) = known_list b fs
known (quant b v f) = unknown
known (window v lo hi) = unknown

-- in ALLOF a false member makes the whole false, in ANYOF a true one makes it true
abbrev pub decides : Bool → Known → Bool
decides all (decided v) = under all v
decides all unknown = false

abbrev pub decided_by : Bool → Formulas → Bool
decided_by all none = false
decided_by all (more f fs) = decides all (known f) || decided_by all fs

-- the other decided members go
abbrev pub keep : Known → Formula → Formulas → Formulas
keep (decided v) f fs = fs
keep unknown f fs = more f fs

abbrev pub stay : Formulas → Formulas
stay none = none
stay (more f fs) = keep (known f) f (stay fs)

-- a list left with one member becomes that member
abbrev pub closed : Bool → Formulas → Formula
closed all none = list all none
closed all (more f none) = f
closed all (more f (more g fs)) = list all (more f (more g fs))

unfoldable pub listed : Bool → Formulas → Formula
listed all fs = cond (decided_by all fs) (sure_record (Bool.not all)) (closed all (stay fs))
