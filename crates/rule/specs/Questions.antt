-- Questions on widths, scans and samples.
-- Assumes nothing.
use Rattle.std.specs.Prelude.{ℕ, ◌*◌, ◌/◌, Bool, ◌&&◌, ◌||◌, List, leb, ltb, eqb, get_or}
use Rattle.rule.specs.Mended.{dead}

-- question 12: L is from 1 to 1,024
unfoldable pub width_good : (l : ℕ) → Bool
width_good l = leb 1 l && leb l 1024

-- question 17 on a lent scan: its length n is L·H with H from 1 to 65,535
unfoldable pub height_good : (l n : ℕ) → Bool
height_good l n = eqb n (l * (n / l)) && (leb 1 (n / l) && leb (n / l) 65535)

-- question 20: r is below H, and c below L
unfoldable pub place_good : (l n r c : ℕ) → Bool
place_good l n r c = ltb r (n / l) && ltb c l

-- question 18: sample k is at most this limit, or dead
abbrev pub sample_good : (limit : ℕ) → List ℕ → ℕ → Bool
sample_good limit xs k = leb (get_or xs k 0) limit || eqb (get_or xs k 0) dead
