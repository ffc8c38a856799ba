-- Laws of the lines of rectangles.
-- Assumes nothing.
use Rattle.std.proofs.Common.{ℕ, suc, ◌≡◌, sym, ap, ◌∙◌, List, [], ◌∷◌, ◌++◌, append_assoc, append-nil}
use Rattle.layout.specs.declared.Rect.{Rect}
use Rattle.arith.specs.Tab.{tab}
use Rattle.arith.proofs.Tabs.{tab-suc}
use Rattle.showing.specs.Showing.{rect_line, rect_lines}

-- one rectangle more
rects_snoc : (rs : List Rect) (r : Rect) → rect_lines (rs ++ (r ∷ [])) ≡ rect_lines rs ++ rect_line r
unfolding rect_lines
rects_snoc [] r = append-nil (rect_line r)
rects_snoc (x ∷ rs) r = ap (λ l. rect_line x ++ l) (rects_snoc rs r) ∙ sym (append_assoc (rect_line x) (rect_lines rs) (rect_line r))

pub lines_suc : (k : ℕ) (f : ℕ → Rect) → rect_lines (tab (suc k) f) ≡ rect_lines (tab k f) ++ rect_line (f k)
lines_suc k f = ap rect_lines (tab-suc k f) ∙ rects_snoc (tab k f) (f k)
