-- What a wrong body would answer, and the clause that refuses it. A name says what the body does.
use Rattle.std.proofs.Common.{◌≡◌, ℕ, List, [], ◌∷◌, ◌<◌, map, length, ap, sym, arith}
use Rattle.std.specs.List.{range_with_len}
use Rattle.uses_services.specs.Images.{shade}
use Rattle.uses_services.specs.Jobs.{outcome_of}

-- the second of a list, or else 0
abbrev second : List ℕ → ℕ
second (x ∷ y ∷ ns) = y
second ns = 0

less : (m n : ℕ) → m ≡ n → m < n → ⊥
less m n is below = absurd (omega arith)

-- `images::run` passes over the second image
pub run_passes_over_an_image : 0 ∷ 2 ∷ [] ≡ map shade (range_with_len 0 2) → ⊥
run_passes_over_an_image is = less 1 2 (sym (ap second is)) (omega arith)

-- it reads the first one twice
pub run_reads_an_image_twice : 0 ∷ 0 ∷ [] ≡ map shade (range_with_len 0 2) → ⊥
run_reads_an_image_twice is = less 0 1 (ap second is) (omega arith)

-- `jobs::run` leaves the last job out
pub run_leaves_a_job_out : (jobs done : List ℕ) (job : ℕ) → done ≡ map outcome_of jobs → done ≡ map outcome_of (job ∷ jobs) → ⊥
run_leaves_a_job_out jobs done job short says =
    (let long = ap length short in
    let longer = ap length says in
    absurd (omega arith))
