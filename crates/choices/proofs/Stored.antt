-- The ratings that stand in the stores are those of the choices.
-- Assumes nothing.
use Rattle.std.proofs.Common.{Option, None, get_or, ℕ, ◌≤◌, ◌<◌, arith, ◌≡◌, ap, ap₂, ◌∙◌, Bool, not, ◌&&◌, List}
use Rattle.arith.specs.Tab.{tab}
use Rattle.arith.proofs.Alls.{all_cong}
use Rattle.arith.proofs.Tabs.{tab_cong, get_or-tab}
use Rattle.layout.specs.declared.Table.{Table}
use Rattle.figures.specs.Measured.{figures_of}
use Rattle.figures.specs.declared.Figures.{Figures}
use Rattle.choices.specs.Choices.{with_drops, choice_count, Rating, beats, unbeaten, rating, rating_of, listed}
use Rattle.choices.specs.Stores.{stored}

pub count_most : (t : Table) → choice_count t ≤ 972
unfolding choice_count
count_most t = omega arith

-- `unbeaten` looks at the first n, and at i
pub unbeaten_cong : (n : ℕ) {f g : ℕ → Rating} → ((k : ℕ) → k < n → f k ≡ g k) → (i : ℕ) → i < n → unbeaten n f i ≡ unbeaten n g i
unfolding unbeaten
unbeaten_cong n {f} {g} e i h =
    ap₂ (λ x b. x.accepted && b) (e i h) (all_cong n (λ k l. ap₂ (λ y x. not (beats y x)) (e k l) (e i h)))

-- the store after the figures were put there
pub stored_is : (t : Table) (l n : ℕ) {fs : List (Option Figures)} → fs ≡ tab n (λ i. figures_of (with_drops t i) l)
    → (i : ℕ) → i < n → stored fs i ≡ rating t l i
unfolding rating
stored_is t l n e i h = ap rating_of (ap (λ fs. get_or fs i None) e ∙ get_or-tab n (λ i. figures_of (with_drops t i) l) i None h)

-- marks by the store are marks by the choices, whatever they are marked with
pub marks_are : {A : Type 0} (mark : Bool → A) (t : Table) (l n : ℕ) {fs : List (Option Figures)}
    → fs ≡ tab n (λ i. figures_of (with_drops t i) l) → n ≡ choice_count t
    → tab n (λ i. mark (unbeaten n (stored fs) i)) ≡ tab (choice_count t) (λ i. mark (listed t l i))
unfolding listed
marks_are mark t l n e c =
    tab_cong n (λ i h. ap mark (unbeaten_cong n (stored_is t l n e) i h ∙ ap (λ m. unbeaten m (rating t l) i) c))
    ∙ ap (λ k. tab k (λ i. mark (unbeaten (choice_count t) (rating t l) i))) c
