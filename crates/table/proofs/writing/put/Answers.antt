-- The header, then the rectangles one after the other.
use Rattle.std.proofs.Common.{◌≡◌, ℕ, ◌+◌, ◌*◌, ◌<◌, List, ◌++◌, length, take, drop, get_or, sym, ap, ◌∙◌, arith, add-one}
use Rattle.std.proofs.Common.{append_assoc, append-nil}
use Rattle.std.proofs.Math.Seq.{take_at, drop_at, drop-drop}
use Rattle.std.proofs.lemmas.List.{get_or-take, length-append}
use Rattle.arith.specs.Tab.{tab}
use Rattle.arith.proofs.Parts.{tail_is, tail_back}
use Rattle.arith.proofs.Tabs.{length-tab, tab-suc}
use Rattle.layout.specs.declared.Table.{Table}
use Rattle.layout.specs.Contents.{contents, rect, no_rect}
use Rattle.table.specs.Format.{encode_head, encode_rect, encode_rects, encode}
use Rattle.table.proofs.Encoded.{length_head, length_rects, rects_snoc}
use Rattle.table.proofs.writing.put.Goals as goal

-- the bytes before slot k
front : Table → ℕ → List ℕ
front t k = encode_head (contents t) ++ encode_rects (tab k (rect t))

front_length : (t : Table) (k : ℕ) → length (front t k) ≡ 9 + 9 * k
unfolding front
front_length t k =
    let a = length-append (encode_head (contents t)) (encode_rects (tab k (rect t))) in
    let b = length_head (contents t) in
    let c = length_rects (tab k (rect t)) in
    let d = length-tab k (rect t) in
    omega arith

-- a turn of the loop: slot k's field is put after them
turn : (out₀ out : List ℕ) (t : Table) (k : ℕ) → out ≡ front t k ++ drop (9 + 9 * k) out₀
    → take (9 + 9 * k) out ++ (encode_rect (rect t k) ++ drop 9 (drop (9 + 9 * k) out)) ≡ front t (k + 1) ++ drop (9 + 9 * (k + 1)) out₀
unfolding front
turn out₀ out t k e =
    let h = encode_head (contents t) in
    let n = front_length t k in
    let p = take_at (front t k) (drop (9 + 9 * k) out₀) (9 + 9 * k) n in
    let q = drop_at (front t k) (drop (9 + 9 * k) out₀) (9 + 9 * k) n in
    let r = drop-drop 9 (9 + 9 * k) out₀ in
    let m : 9 + 9 * k + 9 ≡ 9 + 9 * (k + 1) = omega arith in
    rw (e, p, q, r, m)
    (sym (append_assoc (front t k) (encode_rect (rect t k)) (drop (9 + 9 * (k + 1)) out₀))
    ∙ ap (λ l. l ++ drop (9 + 9 * (k + 1)) out₀)
    (append_assoc h (encode_rects (tab k (rect t))) (encode_rect (rect t k))
    ∙ ap (λ l. h ++ l)
    (sym (rects_snoc (tab k (rect t)) (rect t k)) ∙ ap encode_rects (sym (tab-suc k (rect t)) ∙ ap (λ j. tab j (rect t)) (sym (add-one k))))))

pub loop-k-init : goal.loop-k-init
unfolding tab encode_rects
loop-k-init c = record {
  so_far = c.put_head.ensures ∙ ap (λ l. l ++ drop 9 c.args.out.now) (sym (append-nil (encode_head (contents c.args.t))));
  room = c.requires.count_in_bounds;
}

pub loop-k-preserved : goal.loop-k-preserved
unfolding front
loop-k-preserved c =
    let i = c.loop-k.invariant in
    let k = c.loop-k.k in
    let t = c.args.t in
    let out = c.loop-k.out in
    let few : k < t.count = (let a = c.loop-k-test.true in let b = c.rects-r-items.ensures.fits in omega arith) in
    let slot = ap (λ rs. get_or rs k no_rect) c.rects-r-items.ensures.items ∙ get_or-take t.count t.rects k no_rect few in
    let p = rw (tail_is (9 + 9 * k) out, slot) at c.put_rect.ensures in
    record {
      so_far = tail_back (9 + 9 * k) out c.put_rect.new.out ∙ ap (λ l. take (9 + 9 * k) out ++ l) p ∙ turn c.args.out.now out t k i.so_far;
      room = i.room;
    }

pub returns : goal.returns
unfolding encode
returns c =
    let i = c.loop-k.invariant in
    let t = c.args.t in
    let e : c.loop-k.k ≡ t.count = (let a = c.loop-k-test.false in let b = c.rects-r-items.ensures.fits in let d = c.loop-k.auto.k-end in let f = c.requires.count_bound in omega arith) in
    i.so_far ∙ rw e
