pub mod SessionsExample
