-- The length of a table's file, and one field more.
-- Assumes nothing.
use Rattle.std.proofs.Common.{◌+◌, ◌*◌, arith, ◌≡◌, refl, sym, ap, ◌∙◌, List, [], ◌∷◌, ◌++◌, append_assoc, append-nil, length, length-append}
use Rattle.layout.specs.declared.Rect.{Rect}
use Rattle.layout.specs.declared.Table.{Table}
use Rattle.layout.specs.Contents.{Contents, contents}
use Rattle.table.specs.Format.{encode_head, encode_rect, encode_rects, encode}
use Rattle.limits.proofs.Values.{slots}

pub length_rect : (r : Rect) → length (encode_rect r) ≡ 9
unfolding encode_rect
length_rect r = refl

pub length_rects : (rs : List Rect) → length (encode_rects rs) ≡ 9 * length rs
unfolding encode_rects
length_rects [] = refl
length_rects (r ∷ rs) =
    let a = length-append (encode_rect r) (encode_rects rs) in
    let b = length_rect r in
    let c = length_rects rs in
    omega arith

pub length_head : (c : Contents) → length (encode_head c) ≡ 9
unfolding encode_head
length_head c = refl

pub length-encode : (c : Contents) → length (encode c) ≡ 9 + 9 * length c.rects
unfolding encode
length-encode c =
    let a = length-append (encode_head c) (encode_rects c.rects) in
    let b = length_head c in
    let d = length_rects c.rects in
    omega arith

pub length_file : (t : Table) → length (encode (contents t)) ≡ 9 + 9 * t.count
length_file t = let a = length-encode (contents t) in let d = slots t in omega arith

pub rects_snoc : (rs : List Rect) (r : Rect) → encode_rects (rs ++ (r ∷ [])) ≡ encode_rects rs ++ encode_rect r
unfolding encode_rects
rects_snoc [] r = append-nil (encode_rect r)
rects_snoc (x ∷ rs) r = ap (λ l. encode_rect x ++ l) (rects_snoc rs r) ∙ sym (append_assoc (encode_rect x) (encode_rects rs) (encode_rect r))
