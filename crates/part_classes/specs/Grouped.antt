-- Classes of parts: parts are of one class exactly if they need the same holding parts.
use Rattle.std.specs.Prelude.{ℕ, zero, suc, ◌+◌, ◌*◌, ◌≤◌, ◌<◌, ◌≡◌, Bool, true, false, cond, ◌&&◌, List, ltb, get_or, set, replicate}
use Rattle.std.specs.Bool.{beq}
use Rattle.held_places.specs.Arrays.{need_stride, needs_at}
use Rattle.part_classes.specs.declared.classes.Classes.{Classes}

-- part q needs the holding part b
abbrev pub need_at : List Bool → ℕ → ℕ → Bool
need_at nd q b = get_or nd (q * need_stride + b) false

-- parts p and q need the same of the first h holding parts
unfoldable pub same_needs_lem : List Bool → ℕ → ℕ → ℕ → Bool
same_needs_lem nd zero p q = true
same_needs_lem nd (suc b) p q = same_needs_lem nd b p q && beq (need_at nd p b) (need_at nd q b)

-- the first of k numbers from i on of which f is true; where there is none, the one behind them
unfoldable pub first_from : (ℕ → Bool) → ℕ → ℕ → ℕ
first_from f i zero = i
first_from f i (suc k) = cond (f i) i (first_from f (suc i) k)

-- classes as plain numbers: the class of each lane, the first part of each class, and how many classes there are
pub record Grouping : Type 0 where
  pub lanes : List ℕ
  pub leads : List ℕ
  pub count : ℕ

-- the numbers of the code's classes
abbrev pub grouping : Classes → Grouping
grouping k = record { lanes = k.lanes; leads = k.leads; count = k.count }

-- the first class whose lead needs what part q needs; where there is none, the number of classes
abbrev pub class_at : List Bool → ℕ → Grouping → ℕ → ℕ
class_at nd h k q = first_from (λ (c : ℕ). same_needs_lem nd h (get_or k.leads c 0) q) 0 k.count

-- the classes with part q in class c: one that is there, or one more, which it leads
abbrev pub put : Grouping → ℕ → ℕ → Grouping
put k q c =
    cond (ltb c k.count) (record { lanes = set k.lanes q c; leads = k.leads; count = k.count })
    (record { lanes = set k.lanes q c; leads = set k.leads c q; count = k.count + 1 })

-- the classes of the first m parts: each part goes to the first class that needs what it needs, or leads one more
unfoldable pub classes_of_lem : List Bool → ℕ → ℕ → Grouping
classes_of_lem nd h zero = record { lanes = replicate 16 0; leads = replicate 16 0; count = 0 }
classes_of_lem nd h (suc q) = put (classes_of_lem nd h q) q (class_at nd h (classes_of_lem nd h q) q)

-- the classes of the first m parts: each has a class, which is led by one of its own parts and needs what that one needs; parts that need the same are of one class; the lanes past the last part go with the first part's
pub record Grouped (nd : List Bool) (h m : ℕ) (k : Grouping) : Type 0 where
  pub is : k ≡ classes_of_lem nd h m
  pub few : k.count ≤ m
  pub class : (q : ℕ) → q < m → get_or k.lanes q 0 < k.count
  pub same : (q : ℕ) → q < m → needs_at h nd (get_or k.leads (get_or k.lanes q 0) 0) ≡ needs_at h nd q
  pub merged : (p q : ℕ) → p < m → q < m → needs_at h nd p ≡ needs_at h nd q → get_or k.lanes p 0 ≡ get_or k.lanes q 0
  pub lead : (c : ℕ) → c < k.count → get_or k.leads c 0 < m
  pub own : (c : ℕ) → c < k.count → get_or k.lanes (get_or k.leads c 0) 0 ≡ c
  pub past : (q : ℕ) → m ≤ q → get_or k.lanes q 0 ≡ 0
  pub first : get_or k.lanes 0 0 ≡ 0

-- class c needs the holding part b: its lead does
abbrev pub need_in : List Bool → Classes → ℕ → ℕ → Bool
need_in nd k b c = need_at nd (get_or k.leads c 0) b
