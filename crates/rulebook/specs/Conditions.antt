-- What a layer looks for in the newest deviations: all on one side of the target, or a drift.
-- Assumes nothing.
use Rattle.std.specs.Prelude.{Bool, true, ◌&&◌, ◌||◌, List, [], ◌∷◌, reverse, ℤ, int_lt}
use Rattle.std.specs.List.{list_all}
use Rattle.std.specs.Int.{is_positive, is_negative}

-- the side condition: all above 0 or all below 0
abbrev pub one_sided : List ℤ → Bool
one_sided newest = list_all is_positive newest || list_all is_negative newest

-- each passes a test with the one before it
abbrev pub all_follow : (ℤ → ℤ → Bool) → List ℤ → Bool
all_follow follows [] = true
all_follow follows (a ∷ []) = true
all_follow follows (a ∷ (b ∷ es)) = follows a b && all_follow follows (b ∷ es)

-- each is above the one before it
abbrev pub rising : List ℤ → Bool
rising = all_follow (λ before deviation. int_lt before deviation)

-- each is below the one before it
abbrev pub falling : List ℤ → Bool
falling = all_follow (λ before deviation. int_lt deviation before)

-- the drift condition: read from oldest to newest, they rise strictly or fall strictly
abbrev pub drifting : List ℤ → Bool
drifting newest = rising (reverse newest) || falling (reverse newest)
