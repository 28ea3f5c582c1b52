pub mod PlaneLaws
