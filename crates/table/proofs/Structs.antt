-- A table's contents and the struct that holds them.
-- Assumes nothing.
use Rattle.std.proofs.Common.{◌+◌, ◌≤◌, ◌<◌, arith, ◌≡◌, refl, sym, ap, ◌∙◌, List, [], ◌∷◌, length, get_or, set, length-append}
use Rattle.arith.proofs.Tabs.{get_or-tab, tab_cong, tab-get_or, tab_snoc}
use Rattle.layout.specs.declared.Rect.{Rect}
use Rattle.layout.specs.declared.Table.{Table}
use Rattle.layout.specs.Contents.{Contents, no_rect, contents, table_of}
use Rattle.table.specs.Format.{plus}

-- c with other rectangles
abbrev pub with_rects : Contents → List Rect → Contents
with_rects c rs = record { b = c.b; q1 = c.q1; q2 = c.q2; q3 = c.q3; t = c.t; w = c.w; rects = rs }

-- the struct of up to 16 rectangles says what it was made of
pub contents-table_of : (c : Contents) → length c.rects ≤ 16 → contents (table_of c) ≡ c
contents-table_of c h =
    ap (with_rects c)
    (tab_cong (length c.rects) (λ k p. get_or-tab 16 (λ j. get_or c.rects j no_rect) k no_rect (omega arith))
    ∙ tab-get_or c.rects (length c.rects) no_rect refl)

-- the struct with a rectangle in its first free slot
abbrev pub placed : Table → Rect → Table
placed t r =
    record { b = t.b; q1 = t.q1; q2 = t.q2; q3 = t.q3; t = t.t; w = t.w; count = t.count + 1; rects = set t.rects t.count r }

pub placed_is : (c : Contents) (r : Rect) → length c.rects < 16 → placed (table_of c) r ≡ table_of (plus c r)
placed_is c r h =
    let p = sym (length-append c.rects (r ∷ [])) in
    let q = tab_snoc 16 c.rects r no_rect h in
    λ i. record { b = c.b; q1 = c.q1; q2 = c.q2; q3 = c.q3; t = c.t; w = c.w; count = p i; rects = q i }
