use Rattle.std.proofs.Common.{unwrap_or, ◌≡◌, ◌∙◌, ◌||◌, sym, leb, eqb, length, get_or}
use Rattle.std.proofs.Math.Nat.{le_trans}
use Rattle.arith.proofs.Firsts.{first_none}
use Rattle.rule.specs.Mended.{dead}
use Rattle.rule.specs.Questions.{sample_good}
use Rattle.rule.proofs.Mended.{small_good}
use Rattle.rule.proofs.Searches.{first_search}
use Rattle.rule.proofs.above.first_above.Goals as goal

pub returns-then-largest-limit : goal.returns-then-largest-limit
returns-then-largest-limit c =
    let xs = c.args.samples.now in
    let m = c.args.limit in
    sym (first_none (length xs) (sample_good m xs) (λ j l. small_good {x = get_or xs j 0} (le_trans (c.largest.ensures j l) c.if-largest-limit.true)))

pub returns : goal.returns
returns c =
    let xs = c.args.samples.now in
    let u : c.unwrap_or.result ≡ unwrap_or c.search_above.result (length xs) = c.unwrap_or.ensures in
    u ∙ rw c.search_above.ensures (first_search (λ x. leb x c.args.limit || eqb x dead) xs)
