use Rattle.std.proofs.Common.{rules, ◌*◌}
use Rattle.arith.proofs.Std.{filled}
use Rattle.scan.proofs.Filters.{clears}
use Rattle.scan.proofs.stored.StoredFilter.clear.Goals as goal

pub slice_bounds-fill-end : goal.slice_bounds-fill-end
slice_bounds-fill-end c = (clears c.args.self.now c.args.width c.requires.0 c.requires.1 c.requires.2).samples

pub slice_bounds-fill-end-2 : goal.slice_bounds-fill-end-2
slice_bounds-fill-end-2 c = let h = (clears c.args.self.now c.args.width c.requires.0 c.requires.1 c.requires.2).samples in search (rules, h)

pub overflow_mul-self : goal.overflow_mul-self
overflow_mul-self c = let h = (clears c.args.self.now c.args.width c.requires.0 c.requires.1 c.requires.2).few in search (rules, h)

pub slice_bounds-fill-end-3 : goal.slice_bounds-fill-end-3
slice_bounds-fill-end-3 c = (clears c.args.self.now c.args.width c.requires.0 c.requires.1 c.requires.2).sums

pub slice_bounds-fill-end-4 : goal.slice_bounds-fill-end-4
slice_bounds-fill-end-4 c = let h = (clears c.args.self.now c.args.width c.requires.0 c.requires.1 c.requires.2).sums in search (rules, h)

pub returns : goal.returns
returns c =
    let a = (clears c.args.self.now c.args.width c.requires.0 c.requires.1 c.requires.2).samples in
    let b = (clears c.args.self.now c.args.width c.requires.0 c.requires.1 c.requires.2).sums in
    let s = filled (32 * c.args.width) 0 in
    let t = filled (c.args.self.now.table.count * c.args.width) 0 in search (rules, a, b, s, t)
