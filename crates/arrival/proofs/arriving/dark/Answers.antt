-- The first places of a line of zeros.
use Rattle.std.proofs.Common.{ℕ, refl, ◌∙◌, arith}
use Rattle.std.proofs.lemmas.List.{length-replicate, get_or-replicate}
use Rattle.arith.proofs.Parts.{first_tab}
use Rattle.arith.proofs.Tabs.{tab_cong}
use Rattle.arrival.proofs.arriving.dark.Goals as goal

pub returns : goal.returns
returns c =
    first_tab c.args.width c.args.width _ refl (rw (length-replicate {A = ℕ} 1024 0) c.requires)
    ∙ tab_cong c.args.width (λ k below. get_or-replicate 1024 k 0 0 (let l = c.requires in omega arith))
