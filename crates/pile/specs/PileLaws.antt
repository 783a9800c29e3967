-- A pile of layers on a base: lawful where the base is, never milder than it, and the same whether its layers are asked one
-- below the other or raise the verdict one after the other.
-- Assumes nothing.
use Rattle.std.specs.Prelude.{◌≡◌, ℕ, List, [], ◌∷◌, ◌++◌, ℤ, refl}
use Rattle.std.proofs.Common.{ap, ◌∙◌, arith}
use Rattle.rulebook.specs.Conditions.{one_sided, drifting}
use Rattle.rulebook.specs.HouseRules.{counted_level, raised}
use Rattle.rulebook.specs.Lawful.{Lawful}
use Rattle.rulebook.specs.Meanings.{Meaning, NeverMilder}
use Rattle.rulebook.specs.LayersLawful.{layered_lawful}
use Rattle.rulebook.proofs.NeverMilder.{layered_never_milder}
use Rattle.pile.specs.declared.choice.LayerKind.{LayerKind}
use Rattle.pile.specs.declared.choice.LayerKind.TheVariants.{Side, Drift}
use Rattle.pile.specs.declared.choice.LayerChoice.{LayerChoice}
use Rattle.pile.specs.Choices.{layer_of_kind, chosen_layer, condition_of_kind}
use Rattle.pile.specs.Piles.{piled, raised_by_all}

module _ (m : Meaning) where
  kind_lawful : (kind : LayerKind) (k level : ℕ) → Lawful m → Lawful (layer_of_kind kind k level m)
  kind_lawful Side k level = layered_lawful one_sided k (counted_level level) m
  kind_lawful Drift k level = layered_lawful drifting k (counted_level level) m

  kind_never_milder : (kind : LayerKind) (k level : ℕ) → NeverMilder (layer_of_kind kind k level m) m
  kind_never_milder Side k level = layered_never_milder one_sided k (counted_level level) m
  kind_never_milder Drift k level = layered_never_milder drifting k (counted_level level) m

  kind_raises : (kind : LayerKind) (k level unit : ℕ) (window : List ℤ)
      → layer_of_kind kind k level m unit window ≡ raised (condition_of_kind kind) k (counted_level level) window (m unit window)
  kind_raises Side k level unit window = refl
  kind_raises Drift k level unit window = refl

pub piled_lawful : (layers : List LayerChoice) (m : Meaning) → Lawful m → Lawful (piled layers m)
piled_lawful [] m l = l
piled_lawful (c ∷ cs) m l = piled_lawful cs (chosen_layer c m) (kind_lawful m c.kind c.k c.level l)

pub piled_never_milder : (layers : List LayerChoice) (m : Meaning) → NeverMilder (piled layers m) m
piled_never_milder [] m unit window u w = omega arith
piled_never_milder (c ∷ cs) m unit window u w =
    let lower = kind_never_milder m c.kind c.k c.level unit window u w in
    let upper = piled_never_milder cs (chosen_layer c m) unit window u w in
    omega arith

-- one layer more, on top
pub one_on_top : (layers : List LayerChoice) (c : LayerChoice) (m : Meaning) → piled (layers ++ (c ∷ [])) m ≡ chosen_layer c (piled layers m)
one_on_top [] c m = refl
one_on_top (d ∷ ds) c m = one_on_top ds c (chosen_layer d m)

pub piled_one_by_one : (layers : List LayerChoice) (m : Meaning) (unit : ℕ) (window : List ℤ) → piled layers m unit window ≡ raised_by_all layers window (m unit window)
piled_one_by_one [] m unit window = refl
piled_one_by_one (c ∷ cs) m unit window =
    piled_one_by_one cs (chosen_layer c m) unit window ∙ ap (raised_by_all cs window) (kind_raises m c.kind c.k c.level unit window)
