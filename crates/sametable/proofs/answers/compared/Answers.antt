-- `sametable::compared`: the line of what the call says.
-- Assumes nothing.
use Rattle.std.proofs.Common.{rules, ◌≡◌, Ok, Some, None, FitsSigned, w32, to_z-of_z}
use Rattle.text.specs.Ascii.{ascii}
use Rattle.text.proofs.Puts.{put_said}
use Rattle.sametable.proofs.Said.{says_same, says_differs, says_refused, in_grid}
use Rattle.sametable.proofs.answers.compared.Goals as goal

pub put_differs-requires-clause-in_grid : goal.put_differs-requires-clause-in_grid
put_differs-requires-clause-in_grid c =
    let f : FitsSigned w32 c.in-Ok-Some.at.row = search rules in
    let h : FitsSigned w32 c.in-Ok-Some.at.col = search rules in
    let i : c.same.result ≡ Ok (Some c.in-Ok-Some.at) = search rules in
    let g = in_grid c.args.one c.args.other _ (search rules) c.same.ensures i in
    (rw (to_z-of_z f) g.0, rw (to_z-of_z h) g.1)

pub returns-in-Err : goal.returns-in-Err
unfolding ascii
returns-in-Err c =
    rw (says_refused c.args.one c.args.other _ (search rules) c.same.ensures c.in-Err.is, ← c.number.ensures) c.put_refused.ensures

pub returns-in-Ok-None : goal.returns-in-Ok-None
unfolding ascii
returns-in-Ok-None c =
    let i : c.same.result ≡ Ok None = search rules in
    let e = c.put_bytes.ensures in
    rw (says_same c.args.one c.args.other _ (search rules) c.same.ensures i) (put_said e.value e.out_after (search rules))

pub returns-in-Ok-Some : goal.returns-in-Ok-Some
returns-in-Ok-Some c =
    let f : FitsSigned w32 c.in-Ok-Some.at.row = search rules in
    let h : FitsSigned w32 c.in-Ok-Some.at.col = search rules in
    let i : c.same.result ≡ Ok (Some c.in-Ok-Some.at) = search rules in
    let e = rw (to_z-of_z f, to_z-of_z h) at c.put_differs.ensures in
    rw (says_differs c.args.one c.args.other _ (search rules) c.same.ensures i) e
