-- The page of the unique index set: its stages are the code's, its runs are the model's, and so no index has two holders.
use Rattle.model.proofs.Names.{Some, arith, ask_of}
use Rattle.model.proofs.Names.{false, refl, true}
use Rattle.model.proofs.Names.{ℕ, ◌≡◌}
use Rattle.model.specs.Families.Indices.Calls.{after, want}
use Rattle.pages.specs.Reading.{asked}
use Rattle.pages.specs.UniqueIndexSet as page
use Rattle.pages.specs.UniqueIndexSetBridge as bridge

-- ---- the tables are the same

-- a stage of the page asks for the operation that the code asks for
pub asks_same : (c : ℕ) (stage : page.Stage) → ask_of (want (bridge.flight c stage)) ≡ Some (asked (page.does c stage).0 (page.does c stage).1)
asks_same c page.AcquireLoadsHead = refl
asks_same c (page.AcquireLoadsNext head) = refl
asks_same c (page.AcquireExchangesHead head next) = refl
asks_same c (page.AcquireClaims index) = refl
asks_same c (page.AcquireScans index) = refl
asks_same c (page.ReleaseClearsFlag index true) = refl
asks_same c (page.ReleaseClearsFlag index false) = refl
asks_same c (page.ReleaseLoadsHead index true) = refl
asks_same c (page.ReleaseLoadsHead index false) = refl
asks_same c (page.ReleaseStoresNext index true head) = refl
asks_same c (page.ReleaseStoresNext index false head) = refl
asks_same c (page.ReleaseExchangesHead index true head) = grind arith
asks_same c (page.ReleaseExchangesHead index false head) = refl
asks_same c (page.ReleaseSubtracts index) = refl

-- a stage of the page goes on from each old word as the code does
pub after_same : (c : ℕ) (stage : page.Stage) (old : ℕ) → after (bridge.flight c stage) old ≡ bridge.went c ((page.does c stage).2 old)
after_same c page.AcquireLoadsHead old = grind arith
after_same c (page.AcquireLoadsNext head) old = refl
after_same c (page.AcquireExchangesHead head next) old = grind arith
after_same c (page.AcquireClaims index) old = grind arith
after_same c (page.AcquireScans index) old = grind arith
after_same c (page.ReleaseClearsFlag index true) old = refl
after_same c (page.ReleaseClearsFlag index false) old = refl
after_same c (page.ReleaseLoadsHead index true) old = refl
after_same c (page.ReleaseLoadsHead index false) old = refl
after_same c (page.ReleaseStoresNext index true head) old = refl
after_same c (page.ReleaseStoresNext index false head) old = refl
after_same c (page.ReleaseExchangesHead index true head) old = grind arith
after_same c (page.ReleaseExchangesHead index false head) old = grind arith
after_same c (page.ReleaseSubtracts index) old = refl

pub code : bridge.UniqueDoesAsTheCode
code c stage = (asks_same c stage, after_same c stage)

pub by_acquires : bridge.AcquiresByTable
by_acquires c stage old = (refl, refl)

pub by_releases : bridge.ReleasesByTable
by_releases c index stage old = (refl, refl)

pub by_locking_releases : bridge.LockingReleasesByTable
by_locking_releases c index stage old = (refl, refl)
