-- A change ends, if what is given, sent or put on again and again comes in at some time; and without losses all that plans say leaves.
use Rattle.std.specs.Prelude.{◌≡◌, ℕ, suc, ◌<◌, ◌≤◌, ◌⊎◌, List, [], ◌∷◌, ◌++◌, ◌≢◌}
use mathlib.Core.List.{Memᴰ}
use Rattle.packet.specs.Packet.{Packet}
use Rattle.run.specs.Net.{Net, GoodNet, Cable, Leaves}
use Rattle.run.specs.Order.{Order, answer_to}
use Rattle.run.specs.Switch.{Mark}
use Rattle.run.specs.Desk.{Idle, Busy, AllSeen, heard}
use Rattle.run.specs.Run.{Entry, Carried, Item, frame, mark, State, Step, enter, arrive, lose, order, hear, next, change, Steps, stay, more, Reach, with_queue, with_desk, arrived, ordered, wanted}
use Rattle.run.specs.Promise.{Left}

-- a run without end
pub record Endless (w : Net) (run : ℕ → State) : Type 0 where
  pub begins : Reach w (run 0)
  pub steps : (n : ℕ) → Step w (run n) (run (suc n))

-- P holds at some time from n on
abbrev pub Sometime : ℕ → (ℕ → Type 0) → Type 0
Sometime n P = (m : ℕ) × (n ≤ m) × P m

-- again and again from n on
abbrev pub Again : ℕ → (ℕ → Type 0) → Type 0
Again n P = (k : ℕ) → n ≤ k → Sometime k P

-- the desk is in another stage, or in another change
abbrev pub Elsewhere : State → State → Type 0
Elsewhere s t = s.desk.from ≡ t.desk.from → s.desk.to ≡ t.desk.to → s.desk.stage ≢ t.desk.stage

-- between n and m the desk went on
abbrev pub Gone : (ℕ → State) → ℕ → ℕ → Type 0
Gone run n m = (k : ℕ) × (n ≤ k) × (k ≤ m) × Elsewhere (run n) (run k)

-- Items, orders and answers may be lost, but not for ever. Each line holds only as long as the desk does not go on
pub record Fair (w : Net) (run : ℕ → State) : Type 0 where
  pub runs : Endless w run
  -- the order of the stage comes to each switch at some time, from whenever on
  pub comes : (n i : ℕ) → i < w.switches → (o : Order) → Memᴰ o (wanted (run n) (run n).desk i) →
      Sometime n (λ m. Gone run n m ⊎ (run (suc m) ≡ ordered w i o (run m)))
  -- a mark that is put on a cable again and again comes in at some time
  pub marks : (n j q i p : ℕ) → Cable w j q i p → (k : Mark) →
      Again n (λ m. Gone run n m ⊎ ((run (suc m)).queue j q ≡ (run m).queue j q ++ (mark k ∷ []))) →
      Sometime n (λ m. Gone run n m ⊎ ((rest : List Item) × ((run m).queue j q ≡ mark k ∷ rest) × (run (suc m) ≡ arrived w i p (mark k) (with_queue j q rest (run m)))))
  -- an answer to the order of the stage that is sent again and again is heard at some time
  pub answers : (n i : ℕ) → i < w.switches → (o : Order) → Memᴰ o (wanted (run n) (run n).desk i) →
      Again n (λ m. Gone run n m ⊎ ((run (suc m)).answered i ≡ (run m).answered i ++ (answer_to o ∷ []))) →
      Sometime n (λ m. Gone run n m ⊎ (run (suc m) ≡ with_desk (heard i (run m).desk) (run m)))
  -- a desk that has heard all goes on at some time
  pub goes : (n : ℕ) → Busy (run n).desk.stage → AllSeen w.switches (run n).desk → Sometime n (Gone run n)

-- in such a run the change that is under way ends
abbrev pub Ends : Type 0
Ends = (w : Net) → GoodNet w → (run : ℕ → State) → Fair w run → (n : ℕ) → Busy (run n).desk.stage →
    Sometime n (λ m. ((run m).desk.stage ≡ Idle) × ((run m).desk.from ≡ (run n).desk.to))

-- steps in which nothing is lost
abbrev pub Keeping : {w : Net} {s t : State} → Step w s t → Type 0
Keeping (enter s i l p n e) = Unit {0}
Keeping (arrive s j q i p c x rest e) = Unit {0}
Keeping (lose s j q i p c x front rest e) = ⊥
Keeping (order s i l o m) = Unit {0}
Keeping (hear s i l o m n) = Unit {0}
Keeping (next s b all) = Unit {0}
Keeping (change s v a g idle room) = Unit {0}

abbrev pub NoLoss : {w : Net} {s t : State} → Steps w s t → Type 0
NoLoss stay = Unit {0}
NoLoss (more r y) = NoLoss r × Keeping y

-- and at any time the change that is under way can still be ended, with nothing lost
abbrev pub CanEnd : Type 0
CanEnd = (w : Net) → GoodNet w → (s : State) → Reach w s → Busy s.desk.stage →
    (t : State) × (r : Steps w s t) × NoLoss r × (t.desk.stage ≡ Idle) × (t.desk.from ≡ s.desk.to)

-- a run in which every frame that is on a cable comes in
pub record Flows (w : Net) (run : ℕ → State) : Type 0 where
  pub runs : Endless w run
  pub arrives : (n j q i p : ℕ) → Cable w j q i p → (c : Carried) → Memᴰ (frame c) ((run n).queue j q) →
      Sometime n (λ m. (rest : List Item) × ((run m).queue j q ≡ frame c ∷ rest) × (run (suc m) ≡ arrived w i p (frame c) (with_queue j q rest (run m))))

-- if none was lost before, all that its plan says of a packet leaves at some time, through any number of changes
abbrev pub AllLeave : Type 0
AllLeave = (w : Net) → GoodNet w → (run : ℕ → State) → Flows w run → (n : ℕ) → (run n).fallen ≡ [] → (e : Entry) → Memᴰ e (run n).entries →
    (k : ℕ) (o : Packet) → Leaves w ((run n).plans e.version) e.from e.first k o → Sometime n (λ m. Left (run m).exits e k o)
