-- What is printed of a struct: the rectangles in its slots, then the comment where there is one.
-- Assumes nothing.
use Rattle.std.proofs.Common.{◌≡◌, ext_get_or, ℕ, List, [], ◌∷◌, ◌++◌, length, true, false, codes, refl, sym, ap, ◌∙◌, append_assoc, append-nil, arith}
use Rattle.std.proofs.lemmas.List.{length-take, get_or-take}
use Rattle.arith.specs.Tab.{tab}
use Rattle.arith.proofs.Tabs.{length-tab, get_or-tab}
use Rattle.layout.specs.declared.Rect.{Rect}
use Rattle.layout.specs.declared.Table.{Table}
use Rattle.layout.specs.Contents.{contents, rect, rects_of, no_rect}
use Rattle.limits.specs.Limits.{fitting}
use Rattle.table.proofs.Structs.{with_rects}
use Rattle.refusals.specs.Sentences.{refusal_text}
use Rattle.text.specs.Ascii.{ascii}
use Rattle.showing.specs.Showing.{text_of, remark, told, printed}

-- the struct whose count is that of its slots says what they hold
slots_told : (t : Table) (rs : List Rect) → rs ≡ rects_of t → tab (length rs) (rect t) ≡ rects_of t
slots_told t rs is =
    ext_get_or no_rect (tab (length rs) (rect t)) (rects_of t) (length-tab (length rs) (rect t) ∙ ap length is)
    (λ k p.
    let l : length (tab (length rs) (rect t)) ≡ length rs = length-tab (length rs) (rect t) in
    let m : length rs ≡ length (rects_of t) = ap length is in
    let n = length-take t.count t.rects in
    get_or-tab (length rs) (rect t) k no_rect (omega arith) ∙ sym (get_or-take t.count t.rects k no_rect (omega arith)))

pub contents_told : (t : Table) (rs : List Rect) (n : ℕ) → rs ≡ rects_of t → n ≡ length rs
    → contents (record { b = t.b; q1 = t.q1; q2 = t.q2; q3 = t.q3; t = t.t; w = t.w; count = n; rects = t.rects }) ≡ told t
contents_told t rs n is e = ap (with_rects (told t)) (ap (λ n. tab n (rect t)) e ∙ slots_told t rs is)

pub without_remark : (t : Table) → fitting t ≡ true → text_of (told t) ≡ printed t
unfolding printed
without_remark t e = rw e (sym (append-nil (text_of (told t))))

pub remark_behind : (t : Table) → fitting t ≡ false → text_of (told t) ++ remark ≡ printed t
unfolding printed
remark_behind t e = rw e refl

pub with_remark : (t : Table) (words : List ℕ) → fitting t ≡ false → words ≡ refusal_text 10
    → text_of (told t) ++ (codes "# refused, 10: " ++ (words ++ codes "\n")) ≡ printed t
unfolding remark ascii
with_remark t words e w =
    rw w (ap (λ l. text_of (told t) ++ l) (sym (append_assoc (codes "# refused, 10: ") (refusal_text 10) (10 ∷ [])))) ∙ remark_behind t e
