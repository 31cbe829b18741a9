use Rattle.std.proofs.Common.{◌≢◌, ◌++◌, [], ap, sym, subst, append_assoc, ◌∙◌}
use Rattle.srm_cell.specs.Lines.{in_blocks, AreFilled}
use Rattle.srm_cell.proofs.Lines.{blocks_more, filled_more, front_none, some_told}
use Rattle.srm_cell.proofs.blocks.Blocks.push.Goals as goal

pub invariant_of-self-in-Ok : goal.invariant_of-self-in-Ok
invariant_of-self-in-Ok c =
    let first = c.self.inside.first in
    let others = c.self.inside.others.items in
    let some : first.items ≢ [] =
    some_told first.items first.len c.is_empty.result first.ok.0 c.is_empty.ensures c.if-is_empty.false in
    record {
      filled = subst AreFilled (sym c.in-Ok.ensures.items) (filled_more others c.args.block c.self.invariant.filled
          (λ none. some (front_none first.items (in_blocks others) (c.self.view_is ∙ c.requires none))));
      front = λ none. absurd (some none);
    }

pub returns-in-Ok : goal.returns-in-Ok
returns-in-Ok c =
    let first = c.self.inside.first.items in
    let others = c.self.inside.others.items in
    ap (λ l. first ++ in_blocks l) c.in-Ok.ensures.items
    ∙ ap (λ l. first ++ l) (blocks_more others c.args.block)
    ∙ sym (append_assoc first (in_blocks others) c.args.block.items)
    ∙ ap (λ l. l ++ c.args.block.items) c.self.view_is
