-- What a table says, and the struct that holds it.
-- Assumes nothing.
use Rattle.std.specs.Prelude.{ℕ, List, [], length, get_or, take, pos}
use Rattle.arith.specs.Tab.{tab}
use Rattle.layout.specs.declared.Rect.{Rect}
use Rattle.layout.specs.declared.Table.{Table}

-- a slot that holds no rectangle
abbrev pub no_rect : Rect
no_rect = record { leadrow = pos 0; leadcol = pos 0; trailrow = pos 0; trailcol = pos 0; weight = pos 0 }

-- what a table says: the six numbers of its header, and its rectangles
pub record Contents : Type 0 where
  pub b : ℕ
  pub q1 : ℕ
  pub q2 : ℕ
  pub q3 : ℕ
  pub t : ℕ
  pub w : ℕ
  pub rects : List Rect

-- a header with no rectangle
abbrev pub no_rects : (b q1 q2 q3 t w : ℕ) → Contents
no_rects b q1 q2 q3 t w = record { b = b; q1 = q1; q2 = q2; q3 = q3; t = t; w = w; rects = [] }

-- rectangle k of a struct
abbrev pub rect : Table → ℕ → Rect
rect t k = get_or t.rects k no_rect

-- the rectangles of a struct: its first `count` slots, all 16 of them at most
abbrev pub rects_of : Table → List Rect
rects_of t = take t.count t.rects

-- what a struct says: slots from the count on are no part of it
abbrev pub contents : Table → Contents
contents t = record { b = t.b; q1 = t.q1; q2 = t.q2; q3 = t.q3; t = t.t; w = t.w; rects = tab t.count (rect t) }

-- the struct that says c, with zeros in the unused slots
abbrev pub table_of : Contents → Table
table_of c =
    record { b = c.b; q1 = c.q1; q2 = c.q2; q3 = c.q3; t = c.t; w = c.w; count = length c.rects; rects = tab 16 (λ k. get_or c.rects k no_rect) }
