use Rattle.std.proofs.Common.{vec_items, sym, ap, ◌∙◌}
use Rattle.pile.specs.Piles.{raised_by_all}
use Rattle.pile.specs.PileLaws.{piled_one_by_one}
use Rattle.pile.proofs.pile.PileRulebook.judge.Goals as goal

pub returns : goal.returns
returns g c =
    let p = piled_one_by_one (vec_items c.args.self.now.layers) (g.B.Rulebook.meaning c.args.self.now.base) c.args.unit c.args.window.now in
    record {
      answer = cc;
      same = λ unit window u w.
          piled_one_by_one (vec_items c.args.self.now.layers) (g.B.Rulebook.meaning c.args.self.now.base) unit window
          ∙ ap (raised_by_all (vec_items c.args.self.now.layers) window) (c.judge-below.ensures.same unit window u w)
          ∙ sym (piled_one_by_one (vec_items c.args.self.now.layers) (g.B.Rulebook.meaning c.judge-below.new.self) unit window);
    }
